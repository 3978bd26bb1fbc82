-- The pairs of the processors: two real lines that turn by their own parameters, or line 0 and another, still. Assumes nothing.
use Prim.Native.Nat.{ℕ, suc, ◌*◌, ◌≤◌, ◌<◌}
use mathlib.Core.Path.{◌≡◌, refl}
use mathlib.Core.Bool.{Bool, true, false}
use mathlib.Core.List.{List}
use mathlib.Core.Logic.{◌≢◌}
use native.Mathlib.Omega.{arith}
use borrow.Author.Tests.{ltb-true, ltb-false}
use lib.Dec.{ltb}
use lib.ListN.{get_or}
use Rattle.sizes.specs.Sizes.{is_order, processors_of, still_of}
use Rattle.ordering.specs.Pairs.{registers_at}
use Rattle.ordering.proofs.RegisterLines.{pair_real, pair_still}
use Rattle.matrix_turns.specs.Turns.{two_lines}
use Rattle.matrix_turns.proofs.LinePairs.{are_two, two_lines_lem, first_line_lem, second_line_lem}
use Rattle.runs.specs.State.{State}
use Rattle.runs.proofs.LineZero.{always_still}
use Rattle.plain_pair.specs.Pair.{pair_rotated}
use Rattle.plain_pair.proofs.RuledPairs.{rotated_by}
use Rattle.plain_pair.proofs.AlikeStates.{Alike, alike_sym, alike_trans, still_alike, pair_alike}
use Rattle.plain_run.specs.State.{ProcessorPair, real_lines, line_0, Paired, pairs_rotated}

-- the pair of processor k comes after those of all processors before it
pub one_pair_more : (n : ℕ) (ls rs : List ℕ) (k : ℕ) (X : State)
    → pairs_rotated n ls rs (suc k) X ≡ pair_rotated n k (get_or ls k 0) (get_or rs k 0) (pairs_rotated n ls rs k X)
unfolding pairs_rotated
one_pair_more n ls rs k X = refl

-- the registers of a step hold such pairs
pub registers_paired : (n : ℕ) → is_order n ≡ true → (s : ℕ) → Paired n (registers_at n s).left (registers_at n s).right (processors_of n)
registers_paired n order s k below = go (ltb k (still_of n)) refl
  where
    go : (b : Bool) → ltb k (still_of n) ≡ b → ProcessorPair n k (get_or (registers_at n s).left k 0) (get_or (registers_at n s).right k 0)
    go true e = let h = ltb-true _ _ e in let t = pair_still n order s k below h in line_0 h t.0 t.1
    go false e = let h = ltb-false _ _ e in real_lines h (two_lines_lem n _ _ (n * n) (pair_real n order s k below h) refl)

module _ (n i p q : ℕ) where
  pub differ : ProcessorPair n i p q → p ≢ q
  differ (real_lines h two) = (are_two n p q (n * n) two).apart
  differ (line_0 h z pq) = pq

  pub are_real : ProcessorPair n i p q → still_of n ≤ i → two_lines n p q (n * n) ≡ true
  are_real (real_lines w two) h = two
  are_real (line_0 w z pq) h = absurd (omega arith)

  -- a processor that is always still leaves the lines 1 to n
  pub rests_alike : (X : State) → ProcessorPair n i p q → i < still_of n → Alike n (pair_rotated n i p q X) X
  rests_alike X (real_lines w two) h = absurd (omega arith)
  rests_alike X (line_0 w z pq) h = rw (rotated_by n i p q X (always_still n i _ h)) (still_alike n p q z pq X)

  pub rotated_alike : ProcessorPair n i p q → (X Y : State) → Alike n X Y → Alike n (pair_rotated n i p q X) (pair_rotated n i p q Y)
  rotated_alike (real_lines w two) X Y h =
      let t = are_two n p q (n * n) two in
      pair_alike n p q (first_line_lem t) (second_line_lem t) i X Y h
  rotated_alike (line_0 w z pq) X Y h =
      let pair = line_0 w z pq in
      alike_trans n (rests_alike X pair w) (alike_trans n h (alike_sym n (rests_alike Y pair w)))
