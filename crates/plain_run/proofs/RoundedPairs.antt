-- The pairs with a rounded root in a run: summed by processors or by steps, bounded, and none after a quiet sweep. Assumes nothing.
use Prim.Native.Nat.{ℕ, suc, ◌+◌, ◌-◌, ◌*◌, ◌≤◌, ◌<◌}
use mathlib.Core.Path.{◌≡◌, refl, sym, ap, ◌∙◌}
use mathlib.Core.Bool.{Bool, true, false, not, ◌||◌}
use native.Mathlib.Nat.{le_refl, mul-zero, mul-le-mul}
use native.Mathlib.Omega.{arith}
use lib.Dec.{ltb}
use lib.Ieee.{Float, eq, of_bits}
use Rattle.float64.specs.Values.{plus_zero}
use Rattle.lists.specs.Bounded.{count, total}
use Rattle.lists.proofs.Bounded.{count_none, count_most}
use Rattle.lists.proofs.Sums.{total_same, total_parts, total_exchanged}
use Rattle.sizes.specs.Sizes.{is_order, processors_of, sweep_steps, still_of, steps_of}
use Rattle.rotation.proofs.RootsFound.{zero_pair_exact}
use Rattle.matrix_turns.specs.Turns.{exact_of}
use Rattle.runs.specs.State.{State}
use Rattle.runs.specs.Blocks.{ruled_exact}
use Rattle.plain_run.specs.State.{after}
use Rattle.plain_run.specs.Met.{pair_met, rounded_in, rounded_of, pairs_by, rounded_by}
use Rattle.plain_run.specs.Quiet.{sweeps_made}
use Rattle.plain_run.proofs.QuietSweeps.{Diagonal, quiet_diagonal, pair_blank, pairs_unchanged, settled}
use Rattle.plain_run.proofs.SweepsMade.{Ends, with_all, when_quiet, made_ends}

-- ---- those of all processors, and how many there can be
pub rounded_sum : (n K : ℕ) (X : State) → total (processors_of n) (λ i. rounded_of n K i X) ≡ rounded_by n K X
unfolding rounded_of pairs_by
rounded_sum n K X = total_exchanged (λ s i. rounded_in n s i X) (processors_of n) K

module _ (n k : ℕ) (X : State) where
  pub rounded_few : (i : ℕ) → rounded_of n k i X ≤ k
  unfolding rounded_of
  rounded_few i = count_most (λ s. rounded_in n s i X) k refl

-- ---- where all entries off the diagonal are +0
-- a pair with b = +0 is exact, whichever processor has it
zero_exact : (n i p q : ℕ) (A : ℕ → ℕ → Float) → A p q ≡ plus_zero → ruled_exact n i (exact_of p q A) ≡ true
unfolding ruled_exact of_bits
zero_exact n i p q A z = rw (← (zero_pair_exact (A p p) (A q q) (A p q) (rw z (unfold eq in refl)))) (either (ltb i (still_of n)))
  where
    either : (b : Bool) → b || true ≡ true
    either true = refl
    either false = refl

module _ (n : ℕ) (order : is_order n ≡ true) (X : State) (K : ℕ) (d : Diagonal n (after n K X).matrix) where
  -- no later pair has a rounded root
  none_rounded : (s i : ℕ) → K ≤ s → i < processors_of n → rounded_in n s i X ≡ false
  unfolding rounded_in pair_met
  none_rounded s i h l =
      rw (settled n order X K d s h, pairs_unchanged n order s i (omega arith) (after n K X) d)
      (ap not (zero_exact n i _ _ (after n K X).matrix (pair_blank n order s i l (after n K X).matrix d).0))

  -- none is counted in later steps
  pub rounded_settled : (K' : ℕ) → K ≤ K' → rounded_by n K' X ≡ rounded_by n K X
  unfolding pairs_by
  rounded_settled K' h =
      let e : K + (K' - K) ≡ K' = omega arith in
      let none : total (K' - K) (λ s. count (λ i. rounded_in n (K + s) i X) (processors_of n)) ≡ (K' - K) * 0 =
      total_same _ 0 (K' - K) (λ s o. count_none _ (processors_of n) (λ i l. none_rounded (K + s) i (omega arith) l)) in
      ap (λ (k : ℕ). rounded_by n k X) (sym e) ∙ total_parts _ K (K' - K) ∙ rw (none, mul-zero (K' - K)) (omega arith)

-- ---- the sweeps made have all the rounded pairs of a run
pub rounded_made : (n : ℕ) → is_order n ≡ true → (S : ℕ) (X : State) → rounded_by n (steps_of n (sweeps_made n S X)) X ≡ rounded_by n (steps_of n S) X
rounded_made n order S X = go (made_ends n X S)
  where
    go : Ends n S X (sweeps_made n S X) → rounded_by n (steps_of n (sweeps_made n S X)) X ≡ rounded_by n (steps_of n S) X
    go (with_all none e) = rw e
    go (when_quiet j h none q e) =
        rw e
        (sym (rounded_settled n order X (steps_of n (suc j)) (quiet_diagonal n order X (suc j) (omega arith) q) (steps_of n S)
        (mul-le-mul h (le_refl (sweep_steps n)))))
