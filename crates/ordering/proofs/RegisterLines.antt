-- The lines that stand in the registers of a step: two different ones in each processor, from the first line to n, and none in two. Assumes
-- nothing.
use Prim.Native.Nat.{ℕ, zero, suc, ◌-◌, ◌≤◌, ◌<◌}
use mathlib.Core.Path.{◌≡◌, refl, ap, ◌∙◌}
use mathlib.Core.Bool.{true}
use native.Mathlib.Nat.{le_refl}
use native.Mathlib.Omega.{arith}
use lib.ListN.{get_or}
use Rattle.systolic.specs.Slots.{Side, left, right, Slot, slot, came_from, prior, line_at, in_order_at, ordered_line}
use Rattle.systolic.proofs.Lines.{line_from, line_one, in_order_one, in_order_in}
use Rattle.ordering.specs.Registers.{registers_of, standing}
use Rattle.sizes.specs.Sizes.{is_order, processors_of, first_line, still_of}
use Rattle.ordering.specs.Pairs.{registers_at}
use Rattle.ordering.proofs.Columns.{column_at}
use Rattle.sizes.proofs.Orders.{order_is, order_half}

-- the line in the left or the right register of processor k, from 0
abbrev pub line_of : ℕ → ℕ → ℕ → Side → ℕ
line_of n s k r = line_at (ordered_line (first_line n)) (processors_of n - 1) s (slot k r)

-- the first line stays in left 1
stays : (l : Slot → ℕ) (m s : ℕ) → line_at l m s (slot 0 left) ≡ l (slot 0 left)
unfolding line_at prior came_from slot
stays l m zero = refl
stays l m (suc s) = stays l m s

pub first_stays : (n s : ℕ) → line_of n s 0 left ≡ first_line n
first_stays n s = stays (ordered_line (first_line n)) (processors_of n - 1) s ∙ unfold ordered_line in_order_at slot in (omega arith)

module _ (n : ℕ) (order : is_order n ≡ true) (s k : ℕ) (below : k < processors_of n) where
  pub left_stands : get_or (registers_at n s).left k 0 ≡ line_of n s k left
  unfolding registers_at registers_of
  left_stands = column_at (processors_of n) (λ k. line_at (ordered_line (first_line n)) (processors_of n - 1) s (slot k left)) k below (order_half n order).1

  pub right_stands : get_or (registers_at n s).right k 0 ≡ line_of n s k right
  unfolding registers_at registers_of
  right_stands = column_at (processors_of n) (λ k. line_at (ordered_line (first_line n)) (processors_of n - 1) s (slot k right)) k below (order_half n order).1

  pub stands : (r : Side) → standing (registers_at n s).left (registers_at n s).right r k ≡ line_of n s k r
  unfolding standing
  stands left = left_stands
  stands right = right_stands

  last : (r : Side) → (slot k r).processor ≤ processors_of n - 1
  last r = unfold slot in (omega arith)

  pub line_within : (r : Side) → (first_line n ≤ line_of n s k r) × (line_of n s k r ≤ n)
  line_within r =
      let w = line_from (ordered_line (first_line n)) (processors_of n - 1) s (slot k r) (last r) in
      let i = in_order_in (first_line n) (processors_of n - 1) w.0 w.1 in
      let o = order_is n order in
      rw w.2 (i.0, let b = i.1 in omega arith)

  one_slot : (r t : Side) (i : ℕ) → i ≤ k → line_of n s i r ≡ line_of n s k t → slot i r ≡ slot k t
  one_slot r t i h e =
      line_one (ordered_line (first_line n)) (processors_of n - 1) (in_order_one (first_line n) (processors_of n - 1)) s (slot i r) (slot k t)
      (unfold slot in (omega arith)) (last t) e

  pub lines_differ : ¬ (line_of n s k left ≡ line_of n s k right)
  lines_differ e = sides (one_slot left right k (le_refl k) e)
    where
      sides : slot k left ≡ slot k right → ⊥
      sides e = unfold slot in (let s : left ≡ right = ap (λ (u : Slot). u.side) e in cc)

  -- no line stands in two processors
  pub lines_apart : (r t : Side) (i : ℕ) → i < k → ¬ (line_of n s i r ≡ line_of n s k t)
  lines_apart r t i h e = processors (one_slot r t i (omega arith) e)
    where
      processors : slot i r ≡ slot k t → ⊥
      processors e = let z : i ≡ k = unfold slot in (ap (λ (u : Slot). u.processor) e) in omega arith

  -- a processor that is not always still has real lines
  line_real : still_of n ≤ k → (r : Side) → (1 ≤ line_of n s k r) × (line_of n s k r ≤ n)
  line_real h r = let w = line_within r in (above _ w.0 (λ o e. lines_apart left r 0 o (first_stays n s ∙ e)), w.1)
    where
      above : (l : ℕ) → first_line n ≤ l → (0 < k → ¬ (first_line n ≡ l)) → 1 ≤ l
      above zero g f = absurd (f (omega arith) (omega arith))
      above (suc l) g f = omega arith

  -- its pair is two different lines of 1 to n
  pub pair_real : still_of n ≤ k → let p = get_or (registers_at n s).left k 0 in let q = get_or (registers_at n s).right k 0 in
      (1 ≤ p) × (p ≤ n) × (1 ≤ q) × (q ≤ n) × (¬ (p ≡ q))
  pair_real h =
      rw (left_stands, right_stands) ((line_real h left).0, (line_real h left).1, (line_real h right).0, (line_real h right).1, lines_differ)

  -- the processor that is always still has line 0 on its left, and another on its right
  pub pair_still : k < still_of n → let p = get_or (registers_at n s).left k 0 in let q = get_or (registers_at n s).right k 0 in (p ≡ 0) × (¬ (p ≡ q))
  pair_still h =
      let z : k ≡ 0 = omega arith in
      (left_stands ∙ ap (λ (i : ℕ). line_of n s i left) z ∙ first_stays n s ∙ omega arith, rw (left_stands, right_stands) lines_differ)
