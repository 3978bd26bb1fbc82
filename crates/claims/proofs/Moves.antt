-- The movement of the pairs, each part by the law that proves it. Assumes nothing.
use Prim.Native.Nat.{ℕ, ◌+◌, ◌-◌, ◌*◌, ◌≤◌}
use mathlib.Core.Path.{◌≡◌, ◌∙◌}
use mathlib.Core.Bool.{true}
use native.Mathlib.Omega.{arith}
use Rattle.sizes.specs.Sizes.{is_order, processors_of, first_line}
use Rattle.ordering.specs.declared.PairList.{PairList}
use Rattle.ordering.specs.Pairs.{Lists}
use Rattle.ordering.proofs.RegisterMoves as moves
use Rattle.ordering.proofs.Meetings.{pairs_repeat, stands_once}
use Rattle.claims.specs.Report.{left_register, right_register, PairingIsTheReports}

at_first : (n : ℕ) (order : is_order n ≡ true) (list : ℕ → PairList) (lists : (s : ℕ) → Lists n s (list s)) (k : ℕ) → 1 ≤ k → k ≤ processors_of n
    → {l r : ℕ} → 2 * k - 2 + first_line n ≡ l → 2 * k - 1 + first_line n ≡ r → (left_register (list 0) k ≡ l) × (right_register (list 0) k ≡ r)
at_first n order list lists k a b e f =
    (moves.left_at_first n order list lists k a b ∙ e, moves.right_at_first n order list lists k a b ∙ f)

pub moved : PairingIsTheReports
moved n order list lists =
    record {
      even_at_first = λ e k a b. at_first n order list lists k a b (omega arith) (omega arith);
      odd_at_first = λ e k a b. at_first n order list lists k a b (omega arith) (omega arith);
      left_1_stays = moves.left_1_stays n order list lists;
      right_1_to_left_2 = moves.right_1_to_left_2 n order list lists;
      left_to_the_next = moves.left_to_the_next n order list lists;
      last_left_to_right = moves.last_left_to_right n order list lists;
      right_to_the_one_before = moves.right_to_the_one_before n order list lists;
      nothing_moves_for_2 = moves.nothing_moves_for_2 n order list lists;
      zeros_above = moves.zeros_above n order list lists;
      line_0_in_left_1 = λ s e. moves.first_in_left_1 n order list lists s ∙ omega arith;
      repeats = pairs_repeat n order list lists;
      each_line_once = stands_once n order list lists;
    }
