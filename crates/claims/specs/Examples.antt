-- The examples that document 01 marks P under "Entries to try", with the flags and counts of document 02 (vii), and
-- steps of two odd orders (document 02 (ii)). Definitions only.
use Rattle.std.specs.Prelude.{ℕ, ◌*◌, ◌≡◌, Bool, true, false, List, [], ◌∷◌, Float, length, get_or}
use Rattle.std.specs.Float.{binary64}
use Rattle.std.specs.Float.Ieee.{of_bits}
use Rattle.lists.specs.Tabulate.{tabulate}
use Rattle.refusal.specs.Answers.{given, answered}
use Rattle.root.specs.Exact.{sqrt_answer}
use Rattle.ordering.specs.declared.Registers.{Registers}
use Rattle.ordering.specs.declared.PairList.{PairList}
use Rattle.ordering.specs.Pairs.{Lists}
use Rattle.sizes.specs.Sizes.{most_processors}
use Rattle.runs.specs.Outcome.{outcome, report}
use Rattle.plain_run.specs.Quiet.{answered_run_of}

pub data Example : Type 0 where
  -- the value with the first pattern has the root with the second, exact or not
  root : ℕ → ℕ → Bool → Example
  -- the list of pairs of an order and a step
  pairs : ℕ → ℕ → List (ℕ × ℕ) → Example
  -- the plain run of an order, a number of sweeps and a matrix makes some sweeps, meets some pairs with a rounded root,
  -- and leaves a matrix and eigenvectors
  run : ℕ → ℕ → ℕ → ℕ → List ℕ → List ℕ → List ℕ → Example

-- The values with the given patterns.
abbrev pub values : List ℕ → List Float
values [] = []
values (x ∷ xs) = of_bits binary64 x ∷ values xs

-- Pairs as registers, left and right, zeros above the last.
abbrev pub as_registers : List (ℕ × ℕ) → Registers
as_registers ps =
    record {
      left = tabulate most_processors (λ k. (get_or ps k (0, 0)).0);
      right = tabulate most_processors (λ k. (get_or ps k (0, 0)).1);
    }

abbrev pub Holds : Example → Type 0
Holds (root x r exact) = sqrt_answer (of_bits binary64 x) ≡ given (of_bits binary64 r, exact)
Holds (pairs n step ps) =
    (r : PairList) → Lists n step r
    → (answered r.answer ≡ given tt) × (r.registers ≡ as_registers ps)
Holds (run n sweeps made rounded a l e) =
    (r v : List Float) → length r ≡ n * n → length v ≡ n * n
    → answered_run_of n sweeps (values a) r v ≡ outcome (given (report made rounded)) (values l) (values e)

-- Roots: 4 (it is 2), -0 (-0), 2, 2 ^ -1074 (2 ^ -537), 1 - 2 ^ -53 (itself), 1 + 2 ^ -52 (1); 4, -0 and 2 ^ -1074 are
-- exact. The run: diagonal 1 and 3, off-diagonal 0, one sweep: unchanged, identity. And the same for 16 sweeps, of
-- which the first is quiet. No root in it is rounded.
abbrev pub examples : List Example
examples =
    root 0x4010_0000_0000_0000 0x4000_0000_0000_0000 true
    ∷ root 0x8000_0000_0000_0000 0x8000_0000_0000_0000 true
    ∷ root 0x4000_0000_0000_0000 0x3ff6_a09e_667f_3bcd false
    ∷ root 0x0000_0000_0000_0001 0x1e60_0000_0000_0000 true
    ∷ root 0x3fef_ffff_ffff_ffff 0x3fef_ffff_ffff_ffff false
    ∷ root 0x3ff0_0000_0000_0001 0x3ff0_0000_0000_0000 false
    ∷ pairs 4 0 ((1, 2) ∷ (3, 4) ∷ [])
    ∷ pairs 4 1 ((1, 4) ∷ (2, 3) ∷ [])
    ∷ pairs 4 2 ((1, 3) ∷ (4, 2) ∷ [])
    ∷ pairs 8 1 ((1, 4) ∷ (2, 6) ∷ (3, 8) ∷ (5, 7) ∷ [])
    ∷ pairs 3 0 ((0, 1) ∷ (2, 3) ∷ [])
    ∷ pairs 3 1 ((0, 3) ∷ (1, 2) ∷ [])
    ∷ pairs 3 2 ((0, 2) ∷ (3, 1) ∷ [])
    ∷ pairs 5 0 ((0, 1) ∷ (2, 3) ∷ (4, 5) ∷ [])
    ∷ pairs 5 1 ((0, 3) ∷ (1, 5) ∷ (2, 4) ∷ [])
    ∷ run 2 1 1 0
    (0x3ff0_0000_0000_0000 ∷ 0 ∷ 0 ∷ 0x4008_0000_0000_0000 ∷ [])
    (0x3ff0_0000_0000_0000 ∷ 0 ∷ 0 ∷ 0x4008_0000_0000_0000 ∷ [])
    (0x3ff0_0000_0000_0000 ∷ 0 ∷ 0 ∷ 0x3ff0_0000_0000_0000 ∷ [])
    ∷ run 2 16 1 0
    (0x3ff0_0000_0000_0000 ∷ 0 ∷ 0 ∷ 0x4008_0000_0000_0000 ∷ [])
    (0x3ff0_0000_0000_0000 ∷ 0 ∷ 0 ∷ 0x4008_0000_0000_0000 ∷ [])
    (0x3ff0_0000_0000_0000 ∷ 0 ∷ 0 ∷ 0x3ff0_0000_0000_0000 ∷ [])
    ∷ []

abbrev pub All : List Example → Type 0
All [] = Unit
All (e ∷ es) = Holds e × All es
