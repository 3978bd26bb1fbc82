-- Line 0 of an odd order holds zeros as long as the lines 1 to n are finite, so a run is spoiled exactly if one of these is not finite at
-- its end. Assumes nothing.
use Prim.Native.Nat.{ℕ, zero, suc, ◌+◌, ◌-◌, ◌*◌, ◌≤◌}
use mathlib.Core.Path.{◌≡◌, refl, sym, ap, ◌∙◌, fun_ext}
use mathlib.Core.Bool.{true, false}
use mathlib.Core.List.{List}
use mathlib.Core.Logic.{◌≢◌}
use native.Mathlib.Omega.{arith}
use lib.Ieee.{Float, of_bits}
use Rattle.float64.specs.Values.{finite}
use Rattle.float64.proofs.Vanishing.{Zero, zero_finite}
use Rattle.lists.specs.Bounded.{any}
use Rattle.lists.proofs.Bounded.{same_bool, any_to, any_from}
use Rattle.rotation.specs.declared.Parameters.{Parameters}
use Rattle.rotation.specs.declared.Parameters.TheVariants.{Still}
use Rattle.rotation.specs.Rotation.{turn_of}
use Rattle.rotation.proofs.FiniteOperands.{zeros_turned}
use Rattle.sizes.specs.Sizes.{is_order, processors_of, first_line, lines_of}
use Rattle.sizes.proofs.Orders.{lines_end}
use Rattle.matrix.proofs.SameEntries.{Finite, Mirrored}
use Rattle.matrix_turns.specs.Turns.{column_turn_all}
use Rattle.matrix_turns.proofs.LinePairs.{are_two, first_line_lem}
use Rattle.matrix_turns.proofs.StillTurns.{still_all_columns}
use Rattle.runs.specs.State.{State}
use Rattle.runs.proofs.LineZero.{always_still}
use Rattle.plain_pair.specs.Pair.{pair_turned, pair_rotated}
use Rattle.plain_pair.proofs.TurnedEntries.{Spot, first, second, neither, spot, all_first, all_second, all_other}
use Rattle.plain_pair.proofs.TurnedEntries.{at_first_other, at_second_other, at_other_first, at_other_second, at_others}
use Rattle.plain_pair.proofs.RuledPairs.{rotated_by}
use Rattle.plain_run.specs.State.{ProcessorPair, real_lines, line_0, Paired, pairs_rotated, after, not_finite_from, not_finite, spoiled}
use Rattle.plain_run.proofs.ProcessorPairs.{registers_paired}
use Rattle.plain_run.proofs.StillPairs.{kept_or_zero}
use Rattle.plain_run.proofs.MirrorEntries.{pairs_mirrored, run_mirrored}
use Rattle.plain_run.proofs.SpoiledRuns.{FiniteState, pair_persists, step_persists, run_persists}
use Rattle.plain_run.proofs.FiniteLines.{finite_entries, finite_state, state_finite, real_finite}

-- row 0 and column 0 hold zeros, of either sign
abbrev pub Blank : (ℕ → ℕ → Float) → Type 0
Blank A = (i : ℕ) → Zero (A 0 i) × Zero (A i 0)

pub record Vanishes (X : State) : Type 0 where
  pub blank_matrix : Blank X.matrix
  pub blank_vectors : Blank X.vectors

become : {x y : Float} → x ≡ y → Zero y → Zero x
become e h = rw e h

-- ---- a pair of two real lines; x and y are any that its turn leaves finite
module _ (p q : ℕ) (p0 : 0 ≢ p) (q0 : 0 ≢ q) (pq : p ≢ q) (P : Parameters) (x y : Float) (f : finite (turn_of P x y).left ≡ true) where
  matrix_blank : (A : ℕ → ℕ → Float) → Blank A → Blank (pair_turned P p q A)
  matrix_blank A b i = (in_row (spot p q i), in_column_lem (spot p q i))
    where
      row_turned_lem : Zero (turn_of P (A 0 p) (A 0 q)).left × Zero (turn_of P (A 0 p) (A 0 q)).right
      row_turned_lem = zeros_turned P x y _ _ f (b p).0 (b q).0

      column_turned_lem : Zero (turn_of P (A p 0) (A q 0)).left × Zero (turn_of P (A p 0) (A q 0)).right
      column_turned_lem = zeros_turned P x y _ _ f (b p).1 (b q).1

      in_row : Spot p q i → Zero (pair_turned P p q A 0 i)
      in_row (first e) = rw e (become (at_other_first P p q A pq 0 p0 q0) row_turned_lem.0)
      in_row (second e) = rw e (become (at_other_second P p q A pq 0 p0 q0) row_turned_lem.1)
      in_row (neither d e) = become (at_others P p q A pq 0 p0 q0 i d e) (b i).0

      in_column_lem : Spot p q i → Zero (pair_turned P p q A i 0)
      in_column_lem (first e) = rw e (become (at_first_other P p q A pq 0 p0 q0) column_turned_lem.0)
      in_column_lem (second e) = rw e (become (at_second_other P p q A pq 0 p0 q0) column_turned_lem.1)
      in_column_lem (neither d e) = become (at_others P p q A pq i d e 0 p0 q0) (b i).1

  vectors_blank : (E : ℕ → ℕ → Float) → Blank E → Blank (column_turn_all P p q E)
  vectors_blank E b i = (in_row (spot p q i), become (all_other P p q E i 0 p0 q0) (b i).1)
    where
      turned : Zero (turn_of P (E 0 p) (E 0 q)).left × Zero (turn_of P (E 0 p) (E 0 q)).right
      turned = zeros_turned P x y _ _ f (b p).0 (b q).0

      in_row : Spot p q i → Zero (column_turn_all P p q E 0 i)
      in_row (first e) = rw e (become (all_first P p q E 0) turned.0)
      in_row (second e) = rw e (become (all_second P p q E 0 pq) turned.1)
      in_row (neither d e) = become (all_other P p q E 0 i d e) (b i).0

-- ---- a still pair only makes zeros
still_zeros : (p q : ℕ) → p ≢ q → (A : ℕ → ℕ → Float) (r c : ℕ) → Zero (A r c) → Zero (pair_turned Still p q A r c)
still_zeros p q pq A r c z = kept_or_zero p q pq A (λ x. Zero x) r c (unfold of_bits in refl) z

module _ (n : ℕ) where
  -- ---- a pair that leaves the lines 1 to n finite leaves zeros in line 0
  pair_vanishes : (i p q : ℕ) → ProcessorPair n i p q → (X : State) → FiniteState n (pair_rotated n i p q X) → Vanishes X → Vanishes (pair_rotated n i p q X)
  pair_vanishes i p q (real_lines w two) X f b = unfold pair_rotated in
      (let t = are_two n p q (n * n) two in
      let p0 : 0 ≢ p = λ e. omega (arith, t.first_above) in
      let q0 : 0 ≢ q = λ e. omega (arith, t.second_above) in
      let kept =
      sym (ap finite (all_first _ p q X.vectors 1)) ∙ f.finite_vectors 1 p (omega arith, omega (arith, t.first_above, t.first_within)) (first_line_lem t) in
      record {
        blank_matrix = matrix_blank p q p0 q0 t.apart _ _ _ kept X.matrix b.blank_matrix;
        blank_vectors = vectors_blank p q p0 q0 t.apart _ _ _ kept X.vectors b.blank_vectors;
      })
  pair_vanishes i p q (line_0 w z pq) X f b =
      rw (rotated_by n i p q X (always_still n i _ w))
      (record {
        blank_matrix = λ k. (still_zeros p q pq X.matrix 0 k (b.blank_matrix k).0, still_zeros p q pq X.matrix k 0 (b.blank_matrix k).1);
        blank_vectors = λ k. (
          become (still_all_columns p q X.vectors 0 k) (b.blank_vectors k).0,
          become (still_all_columns p q X.vectors k 0) (b.blank_vectors k).1,
        );
      })

  pairs_vanish : (ls rs : List ℕ) (k : ℕ) → Paired n ls rs k → (X : State) → Mirrored n X.matrix → FiniteState n (pairs_rotated n ls rs k X) → Vanishes X
      → Vanishes (pairs_rotated n ls rs k X)
  unfolding pairs_rotated
  pairs_vanish ls rs zero paired X m f b = b
  pairs_vanish ls rs (suc k) paired X m f b =
      let below : Paired n ls rs k = λ i h. paired i (omega arith) in
      let pair = paired k (omega arith) in
      pair_vanishes k _ _ pair _ f (pairs_vanish ls rs k below X m (pair_persists n k _ _ pair _ (pairs_mirrored n ls rs k below X m) f) b)

  -- ---- the test of all lines
  entry_finite : (A : ℕ → ℕ → Float) → Finite n A → Blank A → (r c : ℕ) → r ≤ n → c ≤ n → finite (A r c) ≡ true
  entry_finite A f b zero c hr hc = zero_finite _ (b c).0
  entry_finite A f b (suc r) zero hr hc = zero_finite _ (b (suc r)).1
  entry_finite A f b (suc r) (suc c) hr hc = f (suc r) (suc c) (omega arith, omega arith) (omega arith, omega arith)

  pub every_line : (X : State) → FiniteState n X → Vanishes X → not_finite n X ≡ false
  unfolding not_finite
  every_line X f b =
      let e = lines_end n in
      finite_entries (first_line n) (lines_of n) X (λ r c hr hc. (
        entry_finite X.matrix f.finite_matrix b.blank_matrix r c (omega arith) (omega arith),
        entry_finite X.vectors f.finite_vectors b.blank_vectors r c (omega arith) (omega arith),
      ))

  module _ (order : is_order n ≡ true) (X : State) (m : Mirrored n X.matrix) (b : Vanishes X) where
    pub run_vanishes : (k : ℕ) → FiniteState n (after n k X) → Vanishes (after n k X)
    unfolding after
    run_vanishes zero f = b
    run_vanishes (suc k) f =
        pairs_vanish _ _ (processors_of n) (registers_paired n order k) (after n k X) (run_mirrored n order k X m) f
        (run_vanishes k (step_persists n order X m k (unfold after in f)))

    -- line 0 fails only where a line of 1 to n does
    pub real_lines_fail : (k : ℕ) → not_finite n (after n k X) ≡ not_finite_from 1 n (after n k X)
    real_lines_fail k =
        same_bool _ _ (λ e. state_finite n _ (real_finite n _ e)) (λ e. let f = finite_state n _ e in every_line _ f (run_vanishes k f))

    pub spoiled_real : (K : ℕ) → spoiled n K X ≡ any K (λ k. not_finite_from 1 n (after n (suc k) X))
    unfolding spoiled
    spoiled_real K = ap (any K) (fun_ext (λ k. real_lines_fail (suc k)))

    -- a run is spoiled exactly if an entry of the lines 1 to n isn't finite at its end
    pub spoiled_at_end : FiniteState n X → (K : ℕ) → spoiled n K X ≡ not_finite_from 1 n (after n K X)
    spoiled_at_end f K = spoiled_real K ∙ same_bool _ _ (to K) from
      where
        to : (K : ℕ) → any K (λ k. not_finite_from 1 n (after n (suc k) X)) ≡ false → not_finite_from 1 n (after n K X) ≡ false
        to zero e = unfold after in (state_finite n X f)
        to (suc k) e = any_to (suc k) _ e k (omega arith)

        from : not_finite_from 1 n (after n K X) ≡ false → any K (λ k. not_finite_from 1 n (after n (suc k) X)) ≡ false
        from e =
            any_from K _ (λ k h.
            let z : K - suc k + suc k ≡ K = omega arith in
            state_finite n (after n (suc k) X) (run_persists n order X m (K - suc k) (suc k) (rw z (finite_state n (after n K X) e))))
