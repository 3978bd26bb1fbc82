-- Document 01: the list of pairs of an order and a step. Definitions only.
use Rattle.std.specs.Prelude.{ℕ, ◌+◌, ◌-◌, ◌≡◌, Bool, cond, ◌||◌, ◌&&◌, [], ◌∷◌, eqb, get_or}
use Rattle.refusal.specs.Answers.{answered, table}
use Rattle.systolic.specs.Slots.{prior, line_at, ordered_line}
use Rattle.lists.specs.Bounded.{any, count}
use Rattle.ordering.specs.declared.Registers.{Registers}
use Rattle.ordering.specs.declared.PairList.{PairList}
use Rattle.ordering.specs.Registers.{registers_of, in_slot}
use Rattle.sizes.specs.Sizes.{most_processors, is_order, processors_of, first_line, order_row}

-- The registers at a step: at first the lines stand in them in order, left 1, right 1, left 2 and so on, and all move after each step.
unfoldable pub registers_at : ℕ → ℕ → Registers
registers_at n step = registers_of (processors_of n) (line_at (ordered_line (first_line n)) (processors_of n - 1) step)

-- The registers that follow r.
unfoldable pub after_step : ℕ → Registers → Registers
after_step n r = registers_of (processors_of n) (λ u. in_slot r (prior (processors_of n - 1) u))

-- Zeros only.
unfoldable pub no_registers : Registers
no_registers = registers_of 0 (λ u. 0)

-- The registers r of an order n, and zeros for a number that is no order.
abbrev pub or_none : ℕ → Registers → Registers
or_none n r = cond (is_order n) r no_registers

-- What the list of pairs answers, and the registers beside the answer.
pub record Lists (n step : ℕ) (r : PairList) : Type 0 where
  pub answers : answered r.answer ≡ table (order_row n ∷ [])
  pub lists : r.registers ≡ or_none n (registers_at n step)

-- The lines p and q meet: they stand in the two registers of one processor of a list.
unfoldable pub meet_in_list : Registers → ℕ → ℕ → Bool
meet_in_list r p q =
    any most_processors (λ k. (eqb (get_or r.left k 0) p && eqb (get_or r.right k 0) q) || (eqb (get_or r.left k 0) q && eqb (get_or r.right k 0) p))

-- In how many registers a line stands.
unfoldable pub stands_in : Registers → ℕ → ℕ
stands_in r p = count (λ k. eqb (get_or r.left k 0) p) most_processors + count (λ k. eqb (get_or r.right k 0) p) most_processors
