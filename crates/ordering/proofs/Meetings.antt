-- The lists of an order: they repeat, each line stands in one register, and two lines meet once in each sweep. Assumes nothing.
use Prim.Native.Nat.{ℕ, suc, ◌+◌, ◌-◌, ◌*◌, ◌≤◌, ◌<◌}
use mathlib.Core.Path.{◌≡◌, refl, sym, ap, ◌∙◌}
use mathlib.Core.Bool.{Bool, true, false, cond, ◌||◌, ◌&&◌}
use native.Mathlib.Omega.{arith}
use borrow.Author.Tests.{eqb-true, eq-eqb, ne_eqb, ltb-true, ltb-false}
use lib.Dec.{eqb, ltb}
use lib.ListN.{get_or}
use Rattle.systolic.specs.Slots.{Side, left, right, Slot, slot, line_at, ordered_line, meet_in, meet_at}
use Rattle.lists.specs.Bounded.{any, count}
use Rattle.lists.proofs.Bounded.{any_within, count_ext, count_none, count_one}
use Rattle.systolic.proofs.Lines.{line_period, numbers_stand, numbers_meet_once}
use Rattle.ordering.specs.declared.PairList.{PairList}
use Rattle.ordering.specs.Registers.{column, registers_of}
use Rattle.sizes.specs.Sizes.{most_processors, is_order, processors_of, sweep_steps, first_line}
use Rattle.ordering.specs.Pairs.{no_registers, registers_at, Lists, meet_in_list, stands_in}
use Rattle.ordering.proofs.Columns.{column_at, column_above}
use Rattle.ordering.proofs.Movement.{registers_ext}
use Rattle.sizes.proofs.Orders.{order_is, order_half, processors_end, sweep_is}

-- ---- a line in one column
module _ (N : ℕ) (f : ℕ → ℕ) (h : N ≤ most_processors) (p : ℕ) (P : 1 ≤ p) where
  -- where it stands
  found : (i : ℕ) → eqb (get_or (column N f) i 0) p ≡ true → (i < N) × (f i ≡ p)
  found i e = go (ltb i N) refl
    where
      go : (b : Bool) → ltb i N ≡ b → (i < N) × (f i ≡ p)
      go true z = let w : i < N = ltb-true _ _ z in (w, sym (column_at N f i w h) ∙ eqb-true _ _ e)
      go false z = let w : 0 ≡ p = sym (column_above N f i (ltb-false _ _ z)) ∙ eqb-true _ _ e in absurd (omega arith)

  column_once : (k : ℕ) → k < N → f k ≡ p → ((i : ℕ) → i < N → f i ≡ p → i ≡ k) → count (λ i. eqb (get_or (column N f) i 0) p) most_processors ≡ 1
  column_once k l e one =
      count_one (λ i. eqb (get_or (column N f) i 0) p) most_processors k (omega arith) (eq-eqb _ _ (column_at N f k l h ∙ e))
      (λ i o z. let w = found i z in one i w.0 w.1)

  column_never : ((i : ℕ) → i < N → ¬ (f i ≡ p)) → count (λ i. eqb (get_or (column N f) i 0) p) most_processors ≡ 0
  column_never none =
      count_none (λ i. eqb (get_or (column N f) i 0) p) most_processors
      (λ i l. ne_eqb (get_or (column N f) i 0) p (λ z. let w = found i (eq-eqb _ _ z) in none i w.0 w.1))

-- ---- registers of N processors
module _ (N : ℕ) (L : Slot → ℕ) (h : N ≤ most_processors) where
  stands_once_at : (p : ℕ) → 1 ≤ p → (r : Side) (k : ℕ) → k < N → L (slot k r) ≡ p → ((t : Side) (i : ℕ) → i < N → L (slot i t) ≡ p → (t ≡ r) × (i ≡ k))
      → stands_in (registers_of N L) p ≡ 1
  unfolding stands_in registers_of
  stands_once_at p P left k l e one =
      let a = column_once N (λ i. L (slot i left)) h p P k l e (λ i o z. (one left i o z).1) in
      let b = column_never N (λ i. L (slot i right)) h p P (λ i o z. let e = (one right i o z).0 in cc) in
      rw (a, b)
  stands_once_at p P right k l e one =
      let a = column_never N (λ i. L (slot i left)) h p P (λ i o z. let e = (one left i o z).0 in cc) in
      let b = column_once N (λ i. L (slot i right)) h p P k l e (λ i o z. (one right i o z).1) in
      rw (a, b)

  list_meets : (p q : ℕ) → 1 ≤ p → 1 ≤ q
      → meet_in_list (registers_of N L) p q
      ≡ any N (λ i. (eqb (L (slot i left)) p && eqb (L (slot i right)) q) || (eqb (L (slot i left)) q && eqb (L (slot i right)) p))
  unfolding meet_in_list registers_of
  list_meets p q P Q =
      any_within most_processors N _ _ h (λ i l. rw (column_at N (λ k. L (slot k left)) i l h, column_at N (λ k. L (slot k right)) i l h)) above
    where
      above : (i : ℕ) → N ≤ i → i < most_processors
          → ((eqb (get_or (column N (λ k. L (slot k left))) i 0) p && eqb (get_or (column N (λ k. L (slot k right))) i 0) q)
          || (eqb (get_or (column N (λ k. L (slot k left))) i 0) q && eqb (get_or (column N (λ k. L (slot k right))) i 0) p)) ≡ false
      above i l o = rw (column_above N (λ k. L (slot k left)) i l, ne_eqb 0 p (λ z. omega arith), ne_eqb 0 q (λ z. omega arith))

meets_as : (b N m s p q : ℕ) → N ≡ suc m → N ≤ most_processors → 1 ≤ p → 1 ≤ q
    → meet_in_list (registers_of N (line_at (ordered_line b) m s)) p q ≡ meet_at (ordered_line b) m s p q
unfolding meet_at meet_in
meets_as b N m s p q e h P Q = list_meets N (line_at (ordered_line b) m s) h p q P Q ∙ ap (λ (x : ℕ). any x (meet_in (ordered_line b) m s p q)) e

-- ---- the lists that the call gives for one order
module _ (n : ℕ) (order : is_order n ≡ true) (list : ℕ → PairList) (lists : (s : ℕ) → Lists n s (list s)) where
  the_list : (s : ℕ) → (list s).registers ≡ registers_at n s
  the_list s = (lists s).lists ∙ ap (λ (b : Bool). cond b (registers_at n s) no_registers) order

  whole : (p : ℕ) → p ≤ n → p < first_line n + 2 * suc (processors_of n - 1)
  whole p h = let o = (order_is n order).0 in omega arith

  -- The pairs repeat every sweep.
  pub pairs_repeat : (s : ℕ) → (list (s + sweep_steps n)).registers ≡ (list s).registers
  pairs_repeat s = the_list (s + sweep_steps n) ∙ again ∙ sym (the_list s)
    where
      below : (r : Side) (k : ℕ) → k < processors_of n → (slot k r).processor ≤ processors_of n - 1
      below r k l = unfold slot in (omega arith)

      again : registers_at n (s + sweep_steps n) ≡ registers_at n s
      again =
          unfold registers_at in (rw (sweep_is n order)
          (registers_ext (processors_of n) _ _ (λ r k l. line_period (ordered_line (first_line n)) (processors_of n - 1) s (slot k r) (below r k l))))

  -- Every line of 1 to n stands in exactly one register.
  pub stands_once : (s p : ℕ) → 1 ≤ p → p ≤ n → stands_in (list s).registers p ≡ 1
  stands_once s p P h =
      ap (λ r. stands_in r p) (the_list s) ∙ unfold registers_at in (at_one (numbers_stand (first_line n) (processors_of n - 1) s p (omega arith) (whole p h)))
    where
      at_one : (u : Slot) × (u.processor ≤ processors_of n - 1) × (line_at (ordered_line (first_line n)) (processors_of n - 1) s u ≡ p)
          × ((w : Slot) → w.processor ≤ processors_of n - 1 → line_at (ordered_line (first_line n)) (processors_of n - 1) s w ≡ p → w ≡ u)
          → stands_in (registers_of (processors_of n) (line_at (ordered_line (first_line n)) (processors_of n - 1) s)) p ≡ 1
      at_one u = unfold slot in
          (let o = order_half n order in
          let l = u.1 in
          stands_once_at (processors_of n) (line_at (ordered_line (first_line n)) (processors_of n - 1) s) o.1 p P u.0.side u.0.processor (omega arith) u.2
          (λ t i d z. let e = u.3 (slot i t) (omega arith) z in (ap (λ w. w.side) e, ap (λ w. w.processor) e)))

  meet_from : (z p q : ℕ) → 1 ≤ p → p ≤ n → 1 ≤ q → q ≤ n → ¬ (p ≡ q) → count (λ s. meet_in_list (list (z + s)).registers p q) (sweep_steps n) ≡ 1
  meet_from z p q P p1 Q q1 d =
      count_ext _ _ (sweep_steps n) (λ s. ap (λ r. meet_in_list r p q) (the_list (z + s)) ∙ same s)
      ∙ ap (count (λ s. meet_at (ordered_line (first_line n)) (processors_of n - 1) (z + s) p q)) (sweep_is n order)
      ∙ numbers_meet_once (first_line n) (processors_of n - 1) z p q (omega arith) (whole p p1) (omega arith) (whole q q1) d
    where
      same : (s : ℕ) → meet_in_list (registers_at n (z + s)) p q ≡ meet_at (ordered_line (first_line n)) (processors_of n - 1) (z + s) p q
      same s = unfold registers_at in
          (meets_as (first_line n) (processors_of n) (processors_of n - 1) (z + s) p q (processors_end n order) (order_half n order).1 P Q)

  -- Two different lines meet in exactly one step of each sweep.
  pub meet_once : (sweep p q : ℕ) → 1 ≤ sweep → 1 ≤ p → p ≤ n → 1 ≤ q → q ≤ n → ¬ (p ≡ q)
      → count (λ s. meet_in_list (list ((sweep - 1) * sweep_steps n + s)).registers p q) (sweep_steps n) ≡ 1
  meet_once sweep p q S P p1 Q q1 d = meet_from ((sweep - 1) * sweep_steps n) p q P p1 Q q1 d
