-- The test whether an entry isn't finite: of the lines 1 to n, and of all that stand in registers. Assumes nothing.
use Prim.Native.Nat.{ℕ, ◌+◌, ◌-◌, ◌≤◌, ◌<◌}
use mathlib.Core.Path.{◌≡◌, ap}
use mathlib.Core.Bool.{true, false, not}
use native.Mathlib.Omega.{arith}
use borrow.Author.Tests.{not-false}
use Rattle.float64.specs.Values.{finite}
use Rattle.lists.proofs.Bounded.{or_false, false_or, any_to, any_from}
use Rattle.sizes.specs.Sizes.{first_line, lines_of}
use Rattle.sizes.proofs.Orders.{lines_end}
use Rattle.matrix.proofs.SameEntries.{Line}
use Rattle.runs.specs.State.{State}
use Rattle.plain_run.specs.State.{not_finite_from, not_finite}
use Rattle.plain_run.proofs.SpoiledRuns.{FiniteState}

-- a line below d, from b on
abbrev pub Within : ℕ → ℕ → ℕ → Type 0
Within b d r = (b ≤ r) × (r < d)

abbrev pub FiniteWithin : ℕ → ℕ → State → Type 0
FiniteWithin b d X = (r c : ℕ) → Within b d r → Within b d c → (finite (X.matrix r c) ≡ true) × (finite (X.vectors r c) ≡ true)

module _ (b N : ℕ) (X : State) where
  entries_finite : not_finite_from b N X ≡ false → FiniteWithin b (b + N) X
  unfolding not_finite_from
  entries_finite e r c hr hc =
      let w = rw (from_b r hr, from_b c hc) at (any_to N _ (any_to N _ e (r - b) (omega arith)) (c - b) (omega arith)) in
      let o = or_false _ _ w in
      (not-false _ o.0, not-false _ o.1)
    where
      from_b : (r : ℕ) → Within b (b + N) r → b + (r - b) ≡ r
      from_b r h = omega arith

  pub finite_entries : FiniteWithin b (b + N) X → not_finite_from b N X ≡ false
  unfolding not_finite_from
  finite_entries f =
      any_from N _ (λ r hr. any_from N _ (λ c hc.
      let w = f (b + r) (b + c) (omega arith, omega arith) (omega arith, omega arith) in
      false_or _ _ (ap not w.0) (ap not w.1)))

module _ (n : ℕ) (X : State) where
  among : (b N : ℕ) → b ≤ 1 → n < b + N → not_finite_from b N X ≡ false → FiniteState n X
  among b N above below e =
      let f = entries_finite b N X e in
      record {
        finite_matrix = λ r c hr hc. (f r c (omega arith, omega arith) (omega arith, omega arith)).0;
        finite_vectors = λ r c hr hc. (f r c (omega arith, omega arith) (omega arith, omega arith)).1;
      }

  -- ---- the lines 1 to n
  pub finite_state : not_finite_from 1 n X ≡ false → FiniteState n X
  finite_state e = among 1 n (omega arith) (omega arith) e

  pub state_finite : FiniteState n X → not_finite_from 1 n X ≡ false
  state_finite f =
      finite_entries 1 n X (λ r c hr hc.
      let lr : Line n r = (omega arith, omega arith) in
      let lc : Line n c = (omega arith, omega arith) in
      (f.finite_matrix r c lr lc, f.finite_vectors r c lr lc))

  -- they are among all
  pub real_finite : not_finite n X ≡ false → FiniteState n X
  unfolding not_finite
  real_finite e = among (first_line n) (lines_of n) (omega arith) (omega (arith, lines_end n)) e
