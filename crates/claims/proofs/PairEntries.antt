-- What a pair does, entry by entry, each part by the law that proves it. Assumes nothing.
use Prim.Native.Nat.{ℕ, ◌-◌, ◌≤◌}
use mathlib.Core.Path.{◌≡◌, sym, ap, subst, ◌∙◌}
use lib.Ieee.{Float}
use Rattle.rotation.specs.declared.Parameters.{Parameters}
use Rattle.rotation.specs.declared.Parameters.TheVariants.{Still, Turn}
use Rattle.matrix_turns.proofs.StillTurns.{still_all_columns}
use Rattle.matrix_turns.specs.Turns.{parameters_of, column_turn_all}
use Rattle.runs.specs.State.{State}
use Rattle.runs.specs.Blocks.{ruled}
use Rattle.runs.proofs.LineZero.{always_still, not_still}
use Rattle.plain_pair.specs.Pair.{pair_turned, state_turned, pair_rotated}
use Rattle.plain_pair.proofs.TurnedEntries.{all_first, all_second, all_other, still_others}
use Rattle.plain_pair.proofs.TurnedEntries.{at_first_first, at_second_second, at_first_second, at_second_first}
use Rattle.plain_pair.proofs.TurnedEntries.{at_first_other, at_second_other, at_other_first, at_other_second, at_others}
use Rattle.claims.specs.Report.{ColumnsTurned, MatrixTurned, Cleared, PairByTheReport, FirstOfOdd}
use Rattle.claims.proofs.FirstProcessor.{is_first, not_first}

module _ (p q : ℕ) (apart : ¬ (p ≡ q)) where
  cleared : (P : Parameters) (A : ℕ → ℕ → Float) → Cleared p q (pair_turned P p q A)
  cleared P A = (at_first_second P p q A apart, at_second_first P p q A apart)

  matrix_turned : (t c s : Float) (A : ℕ → ℕ → Float) → MatrixTurned t c s p q A (pair_turned (Turn t c s) p q A)
  matrix_turned t c s A =
      let P = Turn t c s in
      record {
        new_left = at_first_first P p q A apart;
        new_right = at_second_second P p q A apart;
        row_left = λ r o. at_first_other P p q A apart r o.0 o.1;
        row_right = λ r o. at_second_other P p q A apart r o.0 o.1;
        columns = record {
          column_left = λ r o. at_other_first P p q A apart r o.0 o.1;
          column_right = λ r o. at_other_second P p q A apart r o.0 o.1;
        };
        others = λ i j o k. at_others P p q A apart i o.0 o.1 j k.0 k.1;
      }

  vectors_turned : (t c s : Float) (E : ℕ → ℕ → Float) → ColumnsTurned (λ r. Unit) c s p q E (column_turn_all (Turn t c s) p q E)
  vectors_turned t c s E =
      let P = Turn t c s in
      record { column_left = λ r o. all_first P p q E r; column_right = λ r o. all_second P p q E r apart }

  turned : (P : Parameters) (X : State) → PairByTheReport P p q X (state_turned P p q X)
  turned P X =
      record {
        cleared = cleared P X.matrix;
        matrix_turned = λ t c s e.
            subst (λ (R : Parameters). MatrixTurned t c s p q X.matrix (pair_turned R p q X.matrix)) (sym e) (matrix_turned t c s X.matrix);
        vectors_turned = λ t c s e.
            subst (λ (R : Parameters). ColumnsTurned (λ r. Unit) c s p q X.vectors (column_turn_all R p q X.vectors)) (sym e)
            (vectors_turned t c s X.vectors);
        vectors_kept = λ r j o. all_other P p q X.vectors r j o.0 o.1;
        still_matrix = λ e i j f g. ap (λ (R : Parameters). pair_turned R p q X.matrix i j) e ∙ still_others p q apart X.matrix i j f g;
        still_vectors = λ e r j. ap (λ (R : Parameters). column_turn_all R p q X.vectors r j) e ∙ still_all_columns p q X.vectors r j;
      }

module _ (n k p q : ℕ) where
  by_ruled : {P : Parameters} (X : State) → P ≡ ruled n (k - 1) (parameters_of p q X.matrix) → ¬ (p ≡ q)
      → PairByTheReport P p q X (pair_rotated n (k - 1) p q X)
  unfolding pair_rotated
  by_ruled {P} X e apart = rw (← e) (turned p q apart P X)

  pub paired : 1 ≤ k → ¬ FirstOfOdd n k → ¬ (p ≡ q) → (X : State) → PairByTheReport (parameters_of p q X.matrix) p q X (pair_rotated n (k - 1) p q X)
  paired h f apart X = by_ruled X (not_still n (k - 1) _ (not_first n k h f)) apart

  pub first_paired : FirstOfOdd n k → ¬ (p ≡ q) → (X : State) → PairByTheReport Still p q X (pair_rotated n (k - 1) p q X)
  first_paired f apart X = by_ruled X (always_still n (k - 1) _ (is_first n k f)) apart
