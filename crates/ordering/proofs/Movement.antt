-- What comes into each register after a step. Assumes nothing.
use Prim.Native.Nat.{ℕ, zero, suc, ◌+◌, ◌-◌, ◌*◌, ◌≤◌, ◌<◌}
use mathlib.Core.Path.{◌≡◌, refl, ap, ◌∙◌}
use mathlib.Core.List.{List}
use native.Mathlib.Omega.{arith}
use borrow.Author.Tests.{eq-eqb, ne_eqb}
use lib.ListN.{get_or, replicate}
use Rattle.systolic.specs.Slots.{Side, left, right, Slot, slot, into_last, came_from, prior, line_at, in_order_at, ordered_line}
use Rattle.systolic.proofs.Movement.{prior_le}
use Rattle.ordering.specs.declared.Registers.{Registers}
use Rattle.ordering.specs.Registers.{column, registers_of, standing, in_slot, coming_into}
use Rattle.sizes.specs.Sizes.{most_processors}
use Rattle.ordering.specs.Pairs.{no_registers}
use Rattle.ordering.proofs.Columns.{column_at, column_ext, none_are, registers_next}

module _ (ls rs : List ℕ) (m : ℕ) where
  pub left_first : (k : ℕ) → k ≡ 0 → coming_into ls rs m left k ≡ get_or ls 0 0
  unfolding coming_into came_from standing slot
  left_first k e = rw e

  pub left_second : (k : ℕ) → k ≡ 1 → coming_into ls rs m left k ≡ get_or rs 0 0
  unfolding coming_into came_from standing slot
  left_second k e = rw e

  pub left_other : (k : ℕ) → ¬ (k ≡ 0) → ¬ (k ≡ 1) → coming_into ls rs m left k ≡ get_or ls (k - 1) 0
  unfolding coming_into came_from standing slot
  left_other zero a b = absurd (a refl)
  left_other (suc zero) a b = absurd (b refl)
  left_other (suc (suc k)) a b = ap (λ (x : ℕ). get_or ls x 0) more
    where
      more : suc k ≡ suc (suc k) - 1
      more = omega arith

  pub right_other : (k : ℕ) → k < m → coming_into ls rs m right k ≡ get_or rs (k + 1) 0
  unfolding coming_into came_from standing slot
  right_other k l = let e : k + 1 ≡ suc k = omega arith in rw (ne_eqb k m (λ z. omega arith), e)

  pub right_only : (k : ℕ) → m ≡ 0 → k ≡ m → coming_into ls rs m right k ≡ get_or rs 0 0
  unfolding coming_into came_from into_last standing slot
  right_only k z e = rw (e, z)

  pub right_last : (k : ℕ) → ¬ (m ≡ 0) → k ≡ m → coming_into ls rs m right k ≡ get_or ls m 0
  unfolding coming_into came_from
  right_last k z e = rw (eq-eqb k m e) (last m z)
    where
      last : (m : ℕ) → ¬ (m ≡ 0) → standing ls rs (into_last m).side (into_last m).processor ≡ get_or ls m 0
      last zero z = absurd (z refl)
      last (suc m) z = unfold into_last standing slot in refl

-- the same by slots
pub comes_in : (r : Registers) (m : ℕ) (t : Side) (k : ℕ) → in_slot r (prior m (slot k t)) ≡ coming_into r.left r.right m t k
unfolding in_slot coming_into prior slot
comes_in r m t k = refl

-- What comes into a register.
pub ruleset moves = (left_first, left_second, left_other, right_other, right_only, right_last)

-- ---- at the start
pub start_left : (b k : ℕ) → ordered_line b (slot k left) ≡ 2 * k + b
unfolding ordered_line in_order_at slot
start_left b k = refl

pub start_right : (b k : ℕ) → ordered_line b (slot k right) ≡ 2 * k + 1 + b
unfolding ordered_line in_order_at slot
start_right b k = refl

-- ---- after one more step
module _ (N : ℕ) (L : Slot → ℕ) (q : N ≤ most_processors) where
  pub stands : (u : Slot) → u.processor < N → in_slot (registers_of N L) u ≡ L u
  unfolding in_slot registers_of slot
  stands u h = at u.side u.processor h
    where
      at : (r : Side) (k : ℕ) → k < N → standing (column N (λ k. L (slot k left))) (column N (λ k. L (slot k right))) r k ≡ L (slot k r)
      at left k h = unfold standing in (column_at N (λ k. L (slot k left)) k h q)
      at right k h = unfold standing in (column_at N (λ k. L (slot k right)) k h q)

pub registers_ext : (N : ℕ) (L M : Slot → ℕ) → ((r : Side) (k : ℕ) → k < N → L (slot k r) ≡ M (slot k r)) → registers_of N L ≡ registers_of N M
unfolding registers_of
registers_ext N L M e = both (column_ext N _ _ (e left)) (column_ext N _ _ (e right))
  where
    both : {a b c d : List ℕ} → a ≡ c → b ≡ d → ◌≡◌ {A = Registers} (record { left = a; right = b }) (record { left = c; right = d })
    both e f = rw (e, f)

pub no_processor_yet : (L : Slot → ℕ)
    → ◌≡◌ {A = Registers} (record { left = replicate most_processors 0; right = replicate most_processors 0 }) (registers_of 0 L)
unfolding no_registers
no_processor_yet L = none_are ∙ registers_ext 0 _ _ (λ r k h. absurd (omega arith))

step_next : (N s : ℕ) (l : Slot → ℕ) → 1 ≤ N → N ≤ most_processors
    → registers_of N (λ u. in_slot (registers_of N (line_at l (N - 1) s)) (prior (N - 1) u)) ≡ registers_of N (line_at l (N - 1) (s + 1))
step_next N s l p q = registers_ext N _ _ (λ r k h. stands N (line_at l (N - 1) s) q (prior (N - 1) (slot k r)) (below r k h) ∙ next r k)
  where
    below : (r : Side) (k : ℕ) → k < N → (prior (N - 1) (slot k r)).processor < N
    below r k h = let b = prior_le (N - 1) (slot k r) (unfold slot in (omega arith)) in omega arith

    next : (r : Side) (k : ℕ) → line_at l (N - 1) s (prior (N - 1) (slot k r)) ≡ line_at l (N - 1) (s + 1) (slot k r)
    next r k = let e : s + 1 ≡ suc s = omega arith in rw e (unfold line_at in refl)

-- ---- the registers of each step, in a loop
module _ (N : ℕ) (l : Slot → ℕ) where
  pub at_start : registers_of N l ≡ registers_of N (line_at l (N - 1) 0)
  at_start = registers_ext N _ _ (λ r k h. unfold line_at in refl)

  pub next_step : {r q : Registers} (s : ℕ) → 1 ≤ N → N ≤ most_processors → q ≡ registers_of N (λ u. in_slot r (prior (N - 1) u))
      → r ≡ registers_of N (line_at l (N - 1) s) → q ≡ registers_of N (line_at l (N - 1) (s + 1))
  next_step s p o z e = z ∙ rw e (step_next N s l p o)

-- What the making and the moving of registers are proved by.
pub ruleset register_steps = (none_are, no_processor_yet, registers_next, start_left, start_right, comes_in, at_start)
