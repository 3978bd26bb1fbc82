-- The registers of an order. Assumes nothing.
use Rattle.std.specs.Prelude.{Ok, Err}
use Prim.Native.Nat.{ℕ, ◌+◌, ◌-◌, ◌*◌, ◌%◌, ◌≤◌, ◌<◌}
use mathlib.Core.Path.{◌≡◌, refl, sym}
use mathlib.Core.Bool.{true, false}
use native.Mathlib.Omega.{arith}
use Rattle.refusal.specs.declared.Refusal.TheVariants.{Order}
use Rattle.sizes.specs.Sizes.{is_order, processors_of, sweep_steps, first_line}
use Rattle.sizes.proofs.Orders.{order_is, order_half, sweep_is}
use Rattle.systolic.specs.Slots.{Side, slot, line_at, ordered_line, prior}
use Rattle.systolic.proofs.Lines.{line_within}
use Rattle.ordering.specs.declared.Registers.{Registers}
use Rattle.ordering.specs.Registers.{registers_of, in_slot}
use Rattle.ordering.specs.Pairs.{registers_at, after_step, no_registers, or_none, Lists}
use Rattle.ordering.proofs.Movement.{registers_ext, at_start, next_step}

-- the steps of one sweep are enough: they come again
pub registers_again : (n step : ℕ) → is_order n ≡ true
    → registers_of (processors_of n) (line_at (ordered_line (first_line n)) (processors_of n - 1) (step % sweep_steps n)) ≡ registers_at n step
unfolding registers_at
registers_again n step e = registers_ext (processors_of n) _ _ (λ r k h. again r k h)
  where
    below : (k : ℕ) (r : Side) → k < processors_of n → (slot k r).processor ≤ processors_of n - 1
    below k r h = unfold slot in (omega arith)

    again : (r : Side) (k : ℕ) → k < processors_of n
        → line_at (ordered_line (first_line n)) (processors_of n - 1) (step % sweep_steps n) (slot k r)
        ≡ line_at (ordered_line (first_line n)) (processors_of n - 1) step (slot k r)
    again r k h =
        let p : sweep_steps n ≡ 2 * (processors_of n - 1) + 1 = sweep_is n e in
        rw p (line_within (ordered_line (first_line n)) (processors_of n - 1) step (slot k r) (below k r h))

-- the two answers
module _ (n step : ℕ) {r : Registers} where
  pub refused_lists : is_order n ≡ false → r ≡ no_registers → Lists n step (record { answer = Err Order; registers = r })
  refused_lists e z = record { answers = rw e; lists = rw e z }

  pub given_lists : is_order n ≡ true → r ≡ registers_at n step → Lists n step (record { answer = Ok tt; registers = r })
  given_lists e z = record { answers = rw e; lists = rw e z }

-- ---- the registers at first and after each step
module _ (n : ℕ) where
  pub first_at : registers_at n 0 ≡ registers_of (processors_of n) (ordered_line (first_line n))
  unfolding registers_at
  first_at = sym (at_start (processors_of n) (ordered_line (first_line n)))

  pub after_at : {r : Registers} (s : Registers) {N : ℕ} → N ≡ processors_of n → r ≡ registers_of N (λ u. in_slot s (prior (N - 1) u)) → r ≡ after_step n s
  unfolding after_step
  after_at s a z = rw a at z

  pub of_order : {r s : Registers} → is_order n ≡ true → r ≡ or_none n s → r ≡ s
  of_order e z = rw e at z

  pub next_at : (k : ℕ) → is_order n ≡ true → after_step n (registers_at n k) ≡ registers_at n (k + 1)
  unfolding after_step registers_at
  next_at k e = let h = order_half n e in next_step (processors_of n) (ordered_line (first_line n)) k h.0 h.1 refl refl

-- What the calls for an order are proved by.
pub ruleset order_steps = (order_half, order_is, first_at, after_at, registers_again, refused_lists, given_lists)
