-- A plain run keeps mirror entries equal in every bit. Assumes nothing.
use Prim.Native.Nat.{ℕ, zero, suc, ◌*◌}
use mathlib.Core.Path.{◌≡◌, sym, ◌∙◌}
use mathlib.Core.Bool.{true}
use mathlib.Core.List.{List}
use mathlib.Core.Logic.{◌≢◌}
use native.Mathlib.Omega.{arith}
use lib.Ieee.{Float}
use Rattle.rotation.specs.declared.Parameters.{Parameters}
use Rattle.rotation.specs.Rotation.{turn_of}
use Rattle.sizes.specs.Sizes.{is_order, processors_of}
use Rattle.matrix.proofs.SameEntries.{Line, Mirrored}
use Rattle.matrix_turns.proofs.LinePairs.{are_two, first_line_lem, second_line_lem}
use Rattle.runs.specs.State.{State}
use Rattle.plain_pair.specs.Pair.{pair_turned, pair_rotated}
use Rattle.plain_run.specs.State.{ProcessorPair, real_lines, line_0, Paired, pairs_rotated, after}
use Rattle.plain_pair.proofs.TurnedEntries.{Spot, first, second, neither, spot}
use Rattle.plain_pair.proofs.TurnedEntries.{at_first_second, at_second_first, at_first_other, at_second_other, at_other_first, at_other_second, at_others}
use Rattle.plain_run.proofs.ProcessorPairs.{registers_paired, rests_alike}

module _ (n p q : ℕ) (hp : Line n p) (hq : Line n q) (pq : p ≢ q) where
  pub turn_mirrored : (P : Parameters) (A : ℕ → ℕ → Float) → Mirrored n A → Mirrored n (pair_turned P p q A)
  turn_mirrored P A m r c hr hc = go (spot p q r) (spot p q c)
    where
      left_side : (i : ℕ) → Line n i → (turn_of P (A p i) (A q i)).left ≡ (turn_of P (A i p) (A i q)).left
      left_side i hi = rw (m p i hp hi, m q i hq hi)

      right_side : (i : ℕ) → Line n i → (turn_of P (A p i) (A q i)).right ≡ (turn_of P (A i p) (A i q)).right
      right_side i hi = rw (m p i hp hi, m q i hq hi)

      go : Spot p q r → Spot p q c → pair_turned P p q A r c ≡ pair_turned P p q A c r
      go (first e) (first f) = rw (e, f)
      go (first e) (second f) = rw (e, f) (at_first_second P p q A pq ∙ sym (at_second_first P p q A pq))
      go (first e) (neither a b) = rw e (at_first_other P p q A pq c a b ∙ left_side c hc ∙ sym (at_other_first P p q A pq c a b))
      go (second e) (first f) = rw (e, f) (at_second_first P p q A pq ∙ sym (at_first_second P p q A pq))
      go (second e) (second f) = rw (e, f)
      go (second e) (neither a b) = rw e (at_second_other P p q A pq c a b ∙ right_side c hc ∙ sym (at_other_second P p q A pq c a b))
      go (neither a b) (first f) = rw f (at_other_first P p q A pq r a b ∙ sym (left_side r hr) ∙ sym (at_first_other P p q A pq r a b))
      go (neither a b) (second f) = rw f (at_other_second P p q A pq r a b ∙ sym (right_side r hr) ∙ sym (at_second_other P p q A pq r a b))
      go (neither a b) (neither a' b') = at_others P p q A pq r a b c a' b' ∙ m r c hr hc ∙ sym (at_others P p q A pq c a' b' r a b)

module _ (n : ℕ) where
  pair_mirrored : (i p q : ℕ) → ProcessorPair n i p q → (X : State) → Mirrored n X.matrix → Mirrored n (pair_rotated n i p q X).matrix
  pair_mirrored i p q (real_lines w two) X m =
      let t = are_two n p q (n * n) two in
      unfold pair_rotated in (turn_mirrored n p q (first_line_lem t) (second_line_lem t) t.apart _ _ m)
  pair_mirrored i p q (line_0 w z pq) X m =
      let h = rests_alike n i p q X (line_0 w z pq) w in
      λ r c hr hc. h.matrices r c hr hc ∙ m r c hr hc ∙ sym (h.matrices c r hc hr)

  pub pairs_mirrored : (ls rs : List ℕ) (k : ℕ) → Paired n ls rs k → (X : State) → Mirrored n X.matrix → Mirrored n (pairs_rotated n ls rs k X).matrix
  unfolding pairs_rotated
  pairs_mirrored ls rs zero paired X m = m
  pairs_mirrored ls rs (suc k) paired X m =
      pair_mirrored k _ _ (paired k (omega arith)) _ (pairs_mirrored ls rs k (λ i h. paired i (omega arith)) X m)

  -- after any number of steps
  pub run_mirrored : is_order n ≡ true → (k : ℕ) (X : State) → Mirrored n X.matrix → Mirrored n (after n k X).matrix
  unfolding after
  run_mirrored order zero X m = m
  run_mirrored order (suc k) X m = pairs_mirrored _ _ (processors_of n) (registers_paired n order k) (after n k X) (run_mirrored order k X m)
