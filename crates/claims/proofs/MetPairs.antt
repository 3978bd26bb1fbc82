-- The pairs that a run meets, in the words of the pages. Assumes nothing.
use Prim.Native.Nat.{ℕ, zero, suc, ◌+◌, ◌-◌, ◌%◌}
use mathlib.Core.Path.{◌≡◌, refl, sym, ap, ◌∙◌}
use mathlib.Core.Bool.{Bool, true, cond, ◌&&◌, ◌||◌}
use native.Mathlib.Omega.{arith}
use borrow.Author.Tests.{ne_eqb}
use lib.Dec.{eqb}
use lib.ListN.{get_or}
use Rattle.rotation.specs.declared.Found.{Found}
use Rattle.rotation.specs.declared.Parameters.TheVariants.{Still}
use Rattle.ordering.specs.declared.Registers.{Registers}
use Rattle.ordering.specs.declared.PairList.{PairList}
use Rattle.ordering.specs.Pairs.{Lists}
use Rattle.ordering.proofs.OrderRegisters.{of_order}
use Rattle.sizes.specs.Sizes.{is_order}
use Rattle.matrix_turns.specs.Turns.{found_at}
use Rattle.runs.specs.State.{State}
use Rattle.runs.specs.Blocks.{ruled_found}
use Rattle.plain_run.specs.State.{pairs_rotated, after}
use Rattle.plain_run.specs.Met.{pair_met}
use Rattle.claims.specs.PlainRuns.{processors_turned}
use Rattle.claims.specs.Report.{left_register, right_register}
use Rattle.claims.specs.QuietSweeps.{at_its_turn}
use Rattle.claims.specs.ExactRoots.{exact_at_its_turn}
use Rattle.claims.proofs.FirstProcessor.{ruled_first, ruled_exact_first}
use Rattle.claims.proofs.PlainRuns.{in_order}

-- processor i + 1 is the first
first_as : (n i : ℕ) → (eqb (n % 2) 1 && eqb (i + 1) 1) ≡ (eqb (n % 2) 1 && eqb i 0)
first_as n zero = refl
first_as n (suc i) = rw (ne_eqb (suc i + 1) 1 (λ z. omega arith), ne_eqb (suc i) 0 (λ z. omega arith))

module _ (n : ℕ) (order : is_order n ≡ true) (list : ℕ → PairList) (lists : (step : ℕ) → Lists n step (list step)) (X : State) (step i : ℕ) where
  abbrev found : Found
  found =
      found_at (left_register (list step) (i + 1)) (right_register (list step) (i + 1)) (processors_turned n (list step) (i + 1 - 1) (after n step X)).matrix

  met_as : ruled_found n i found ≡ pair_met n step i X
  unfolding pair_met
  met_as =
      let Y = after n step X in
      let e : i + 1 - 1 ≡ i = omega arith in
      rw e
      (ap (λ (Z : State). ruled_found n i (found_at (get_or (list step).registers.left i 0) (get_or (list step).registers.right i 0) Z.matrix))
      (sym (in_order n (list step) i Y))
      ∙ ap (λ (r : Registers). ruled_found n i (found_at (get_or r.left i 0) (get_or r.right i 0) (pairs_rotated n r.left r.right i Y).matrix))
      (of_order n order (lists step).lists))

  -- what it turns by, and whether it counts as exact
  pub at_its_turn_lem : at_its_turn n (list step) (i + 1) (after n step X) ≡ (pair_met n step i X).parameters
  at_its_turn_lem =
      ap (λ (b : Bool). cond b Still found.parameters) (first_as n i)
      ∙ sym (ruled_first n i found.parameters)
      ∙ ap (λ (f : Found). f.parameters) met_as

  pub exact_at_its_turn_lem : exact_at_its_turn n (list step) (i + 1) (after n step X) ≡ (pair_met n step i X).exact
  exact_at_its_turn_lem =
      ap (λ (b : Bool). b || found.exact) (first_as n i) ∙ sym (ruled_exact_first n i found.exact) ∙ ap (λ (f : Found). f.exact) met_as
