-- An entry at the lines 1 to n that isn't finite is not made finite again. Assumes nothing.
use Prim.Native.Nat.{ℕ, zero, suc, ◌+◌, ◌*◌}
use mathlib.Core.Path.{◌≡◌}
use mathlib.Core.Bool.{true}
use mathlib.Core.List.{List}
use mathlib.Core.Logic.{◌≢◌}
use native.Mathlib.Nat.{zero-add, suc-add}
use native.Mathlib.Omega.{arith}
use lib.Ieee.{Float}
use Rattle.float64.specs.Values.{finite}
use Rattle.rotation.specs.declared.Parameters.{Parameters}
use Rattle.rotation.proofs.FiniteOperands.{turn_kept, pair_kept}
use Rattle.sizes.specs.Sizes.{is_order, processors_of}
use Rattle.matrix.proofs.SameEntries.{Line, Finite, Mirrored}
use Rattle.matrix_turns.specs.Turns.{parameters_of, column_turn_all}
use Rattle.matrix_turns.proofs.LinePairs.{are_two, first_line_lem, second_line_lem}
use Rattle.runs.specs.State.{State}
use Rattle.plain_pair.specs.Pair.{pair_turned, pair_rotated}
use Rattle.plain_run.specs.State.{ProcessorPair, real_lines, line_0, Paired, pairs_rotated, after}
use Rattle.runs.proofs.LineZero.{not_still}
use Rattle.plain_pair.proofs.RuledPairs.{rotated_by}
use Rattle.plain_pair.proofs.AlikeStates.{Alike}
use Rattle.plain_pair.proofs.TurnedEntries.{Spot, first, second, neither, spot, all_first, all_second, all_other}
use Rattle.plain_pair.proofs.TurnedEntries.{at_first_first, at_second_second, at_first_other, at_second_other, at_other_first, at_other_second, at_others}
use Rattle.plain_run.proofs.ProcessorPairs.{registers_paired, rests_alike}
use Rattle.plain_run.proofs.MirrorEntries.{pairs_mirrored, run_mirrored}

pub record FiniteState (n : ℕ) (X : State) : Type 0 where
  pub finite_matrix : Finite n X.matrix
  pub finite_vectors : Finite n X.vectors

become : {x y : Float} → x ≡ y → finite x ≡ true → finite y ≡ true
become e h = rw (← e) h

module _ (n p q : ℕ) (hp : Line n p) (hq : Line n q) (pq : p ≢ q) where
  -- ---- one pair
  pub matrix_persists : (A : ℕ → ℕ → Float) → Mirrored n A → Finite n (pair_turned (parameters_of p q A) p q A) → Finite n A
  matrix_persists A m f r c hr hc = go (spot p q r) (spot p q c)
    where
      P : Parameters
      P = parameters_of p q A

      diagonal : (finite (A p p) ≡ true) × (finite (A q q) ≡ true) × (finite (A p q) ≡ true)
      diagonal =
          pair_kept (A p p) (A q q) (A p q) (become (at_first_first P p q A pq) (f p p hp hp)) (become (at_second_second P p q A pq) (f q q hq hq))

      in_column_lem : (i : ℕ) → Line n i → i ≢ p → i ≢ q → (finite (A p i) ≡ true) × (finite (A q i) ≡ true)
      in_column_lem i hi a b =
          turn_kept P (A p i) (A q i) (become (at_first_other P p q A pq i a b) (f p i hp hi)) (become (at_second_other P p q A pq i a b) (f q i hq hi))

      in_row : (i : ℕ) → Line n i → i ≢ p → i ≢ q → (finite (A i p) ≡ true) × (finite (A i q) ≡ true)
      in_row i hi a b =
          turn_kept P (A i p) (A i q) (become (at_other_first P p q A pq i a b) (f i p hi hp)) (become (at_other_second P p q A pq i a b) (f i q hi hq))

      go : Spot p q r → Spot p q c → finite (A r c) ≡ true
      go (first e) (first g) = rw (e, g) diagonal.0
      go (first e) (second g) = rw (e, g) diagonal.2
      go (first e) (neither a b) = rw e (in_column_lem c hc a b).0
      go (second e) (first g) = rw (e, g) (become (m p q hp hq) diagonal.2)
      go (second e) (second g) = rw (e, g) diagonal.1
      go (second e) (neither a b) = rw e (in_column_lem c hc a b).1
      go (neither a b) (first g) = rw g (in_row r hr a b).0
      go (neither a b) (second g) = rw g (in_row r hr a b).1
      go (neither a b) (neither a' b') = become (at_others P p q A pq r a b c a' b') (f r c hr hc)

  pub vectors_persist : (P : Parameters) (A : ℕ → ℕ → Float) → Finite n (column_turn_all P p q A) → Finite n A
  vectors_persist P A f r c hr hc = go (spot p q c)
    where
      both : (finite (A r p) ≡ true) × (finite (A r q) ≡ true)
      both = turn_kept P (A r p) (A r q) (become (all_first P p q A r) (f r p hr hp)) (become (all_second P p q A r pq) (f r q hr hq))

      go : Spot p q c → finite (A r c) ≡ true
      go (first g) = rw g both.0
      go (second g) = rw g both.1
      go (neither a b) = become (all_other P p q A r c a b) (f r c hr hc)

module _ (n : ℕ) where
  finite_alike : {X Y : State} → Alike n X Y → FiniteState n X → FiniteState n Y
  finite_alike h f =
      record {
        finite_matrix = λ r c hr hc. become (h.matrices r c hr hc) (f.finite_matrix r c hr hc);
        finite_vectors = λ r c hr hc. become (h.eigenvectors r c hr hc) (f.finite_vectors r c hr hc);
      }

  -- ---- the pairs of a step, and the steps of a run
  pub pair_persists : (i p q : ℕ) → ProcessorPair n i p q → (X : State) → Mirrored n X.matrix → FiniteState n (pair_rotated n i p q X) → FiniteState n X
  pair_persists i p q (real_lines w two) X m f =
      let t = are_two n p q (n * n) two in
      let g = rw (rotated_by n i p q X (not_still n i _ w)) at f in
      record {
        finite_matrix = matrix_persists n p q (first_line_lem t) (second_line_lem t) t.apart X.matrix m g.finite_matrix;
        finite_vectors = vectors_persist n p q (first_line_lem t) (second_line_lem t) t.apart _ X.vectors g.finite_vectors;
      }
  pair_persists i p q (line_0 w z pq) X m f = finite_alike (rests_alike n i p q X (line_0 w z pq) w) f

  pub pairs_persist : (ls rs : List ℕ) (k : ℕ) → Paired n ls rs k → (X : State) → Mirrored n X.matrix → FiniteState n (pairs_rotated n ls rs k X)
      → FiniteState n X
  unfolding pairs_rotated
  pairs_persist ls rs zero paired X m f = f
  pairs_persist ls rs (suc k) paired X m f =
      let below : Paired n ls rs k = λ i h. paired i (omega arith) in
      pairs_persist ls rs k below X m (pair_persists k _ _ (paired k (omega arith)) _ (pairs_mirrored n ls rs k below X m) f)

  module _ (order : is_order n ≡ true) (X : State) (m : Mirrored n X.matrix) where
    pub step_persists : (k : ℕ) → FiniteState n (after n (suc k) X) → FiniteState n (after n k X)
    unfolding after
    step_persists k f = pairs_persist _ _ (processors_of n) (registers_paired n order k) (after n k X) (run_mirrored n order k X m) f

    pub run_persists : (i k : ℕ) → FiniteState n (after n (i + k) X) → FiniteState n (after n k X)
    run_persists zero k f = rw zero-add at f
    run_persists (suc i) k f = run_persists i k (step_persists (i + k) (rw suc-add at f))
