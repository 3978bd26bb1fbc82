-- The registers in the lists of an order, of processor k from 1: at first, and as they move after each step. Assumes nothing.
use Prim.Native.Nat.{ℕ, suc, ◌+◌, ◌-◌, ◌*◌, ◌≤◌, ◌<◌}
use mathlib.Core.Path.{◌≡◌, refl, sym, ap, ◌∙◌}
use mathlib.Core.Bool.{true}
use mathlib.Core.List.{List}
use native.Mathlib.Numerals.{add-one}
use native.Mathlib.Omega.{arith}
use lib.ListN.{get_or}
use Rattle.systolic.specs.Slots.{Side, left, right, slot, prior, ordered_line}
use Rattle.sizes.specs.Sizes.{is_order, processors_of, first_line}
use Rattle.sizes.proofs.Orders.{order_half}
use Rattle.ordering.specs.declared.Registers.{Registers}
use Rattle.ordering.specs.declared.PairList.{PairList}
use Rattle.ordering.specs.Registers.{registers_of, standing, in_slot, coming_into}
use Rattle.ordering.specs.Pairs.{registers_at, after_step, Lists}
use Rattle.ordering.proofs.Columns.{column_above}
use Rattle.ordering.proofs.Movement.{left_first, left_second, left_other, right_other, right_only, right_last, start_left, start_right, stands}
use Rattle.ordering.proofs.OrderRegisters.{first_at, of_order, next_at}
use Rattle.ordering.proofs.RegisterLines.{first_stays, left_stands}

module _ (n : ℕ) (order : is_order n ≡ true) (list : ℕ → PairList) (lists : (s : ℕ) → Lists n s (list s)) where
  some : 1 ≤ processors_of n
  some = (order_half n order).0

  the_list : (s : ℕ) → (list s).registers ≡ registers_at n s
  the_list s = of_order n order (lists s).lists

  -- ---- at first
  begins : (r : Side) (k : ℕ) → k < processors_of n → in_slot (list 0).registers (slot k r) ≡ ordered_line (first_line n) (slot k r)
  unfolding slot
  begins r k h =
      ap (λ (l : Registers). in_slot l (slot k r)) (the_list 0 ∙ first_at n)
      ∙ stands (processors_of n) (ordered_line (first_line n)) (order_half n order).1 (slot k r) h

  pub left_at_first : (k : ℕ) → 1 ≤ k → k ≤ processors_of n → get_or (list 0).registers.left (k - 1) 0 ≡ 2 * k - 2 + first_line n
  unfolding in_slot standing slot
  left_at_first k a b =
      let e : 2 * (k - 1) + first_line n ≡ 2 * k - 2 + first_line n = omega arith in
      begins left (k - 1) (omega arith) ∙ (start_left (first_line n) (k - 1)) ∙ e

  pub right_at_first : (k : ℕ) → 1 ≤ k → k ≤ processors_of n → get_or (list 0).registers.right (k - 1) 0 ≡ 2 * k - 1 + first_line n
  unfolding in_slot standing slot
  right_at_first k a b =
      let e : 2 * (k - 1) + 1 + first_line n ≡ 2 * k - 1 + first_line n = omega arith in
      begins right (k - 1) (omega arith) ∙ (start_right (first_line n) (k - 1)) ∙ e

  pub zeros_above : (s k : ℕ) → processors_of n < k → (get_or (list s).registers.left (k - 1) 0 ≡ 0) × (get_or (list s).registers.right (k - 1) 0 ≡ 0)
  unfolding registers_at registers_of
  zeros_above s k h = rw (the_list s) (column_above (processors_of n) _ (k - 1) (omega arith), column_above (processors_of n) _ (k - 1) (omega arith))

  -- the first line is there at every step
  pub first_in_left_1 : (s : ℕ) → get_or (list s).registers.left 0 0 ≡ first_line n
  first_in_left_1 s = ap (λ (l : Registers). get_or l.left 0 0) (the_list s) ∙ left_stands n order s 0 some ∙ first_stays n s

  -- ---- after one more step
  module _ (s : ℕ) where
    abbrev lefts : List ℕ
    lefts = (list s).registers.left

    abbrev rights : List ℕ
    rights = (list s).registers.right

    abbrev next_lefts : List ℕ
    next_lefts = (list (suc s)).registers.left

    abbrev next_rights : List ℕ
    next_rights = (list (suc s)).registers.right

    next_list : (list (suc s)).registers ≡ after_step n (list s).registers
    next_list = the_list (suc s) ∙ ap (registers_at n) (sym (add-one s)) ∙ sym (next_at n s order) ∙ ap (after_step n) (sym (the_list s))

    -- what comes into the registers of processor k, here from 0
    comes : (r : Side) (k : ℕ) → k < processors_of n → standing next_lefts next_rights r k ≡ coming_into lefts rights (processors_of n - 1) r k
    unfolding after_step in_slot prior slot coming_into
    comes r k h =
        ap (λ (l : Registers). in_slot l (slot k r)) next_list
        ∙ stands (processors_of n) (λ u. in_slot (list s).registers (prior (processors_of n - 1) u)) (order_half n order).1 (slot k r) h

    pub left_1_stays : get_or next_lefts 0 0 ≡ get_or lefts 0 0
    unfolding standing
    left_1_stays = comes left 0 some ∙ (left_first lefts rights (processors_of n - 1) 0 refl)

    pub right_1_to_left_2 : 2 ≤ processors_of n → get_or next_lefts 1 0 ≡ get_or rights 0 0
    unfolding standing
    right_1_to_left_2 h = comes left 1 h ∙ (left_second lefts rights (processors_of n - 1) 1 refl)

    pub left_to_the_next : (k : ℕ) → 2 ≤ k → k < processors_of n → get_or next_lefts (k + 1 - 1) 0 ≡ get_or lefts (k - 1) 0
    unfolding standing
    left_to_the_next k a b =
        let e : k + 1 - 1 ≡ k = omega arith in
        rw e (comes left k b ∙ (left_other lefts rights (processors_of n - 1) k (λ z. omega arith) (λ z. omega arith)))

    pub last_left_to_right : 2 ≤ processors_of n → get_or next_rights (processors_of n - 1) 0 ≡ get_or lefts (processors_of n - 1) 0
    unfolding standing
    last_left_to_right h = comes right (processors_of n - 1) (omega arith)
        ∙ (right_last lefts rights (processors_of n - 1) (processors_of n - 1) (λ z. omega arith) refl)

    pub right_to_the_one_before : (k : ℕ) → 2 ≤ k → k ≤ processors_of n → get_or next_rights (k - 1 - 1) 0 ≡ get_or rights (k - 1) 0
    unfolding standing
    right_to_the_one_before k a b =
        let e : k - 1 - 1 + 1 ≡ k - 1 = omega arith in
        comes right (k - 1 - 1) (omega arith) ∙ (right_other lefts rights (processors_of n - 1) (k - 1 - 1) (omega arith)) ∙ rw e

    pub nothing_moves_for_2 : n ≡ 2 → get_or next_rights 0 0 ≡ get_or rights 0 0
    unfolding standing
    nothing_moves_for_2 e = comes right 0 some ∙ (right_only lefts rights (processors_of n - 1) 0 (omega arith) (omega arith))
