-- Document 01, "Sizes", and document 02 (ii) and (vii): the limits, and what follows from the order n and the sweeps. No other definition names a
-- limit; the page of claims states the documents' figures. Definitions only.
use Rattle.std.specs.Prelude.{ℕ, ◌+◌, ◌-◌, ◌*◌, ◌/◌, ◌%◌, Bool, not, ◌&&◌, [], ◌∷◌, leb, ltb}
use Rattle.refusal.specs.Answers.{Answered, row, table}
use Rattle.refusal.specs.declared.Refusal.TheVariants.{Order, Sweeps}

-- The most processors.
abbrev pub most_processors : ℕ
most_processors = 16

-- The largest order.
abbrev pub largest_order : ℕ
largest_order = 2 * most_processors

-- The most sweeps.
abbrev pub most_sweeps : ℕ
most_sweeps = 16

-- The most that a tile counts to.
abbrev pub most_counted : ℕ
most_counted = 65535

-- n is an order: from 2 to the largest.
unfoldable pub is_order : ℕ → Bool
is_order n = leb 2 n && leb n largest_order

-- The number N of processors.
abbrev pub processors_of : ℕ → ℕ
processors_of n = (n + 1) / 2

-- The number of steps in a sweep.
abbrev pub sweep_steps : ℕ → ℕ
sweep_steps n = 2 * processors_of n - 1

-- The line that stands in the left register of processor 1 at first; the others follow in order. An odd order has a line 0 there, which
-- document 02 adds to its real lines 1 to n.
abbrev pub first_line : ℕ → ℕ
first_line n = 1 - n % 2

-- The number of lines in the registers, line 0 counted.
abbrev pub lines_of : ℕ → ℕ
lines_of n = 2 * processors_of n

-- How many processors, from the first, are always still: processor 1 of an odd order, which has line 0.
abbrev pub still_of : ℕ → ℕ
still_of n = n % 2

-- The number K of steps in a run.
abbrev pub steps_of : ℕ → ℕ → ℕ
steps_of n sweeps = sweeps * sweep_steps n

-- The number of ticks that the array makes in a run, 3 K + N.
abbrev pub ticks_of : ℕ → ℕ → ℕ
ticks_of n sweeps = 3 * steps_of n sweeps + processors_of n

-- ---- refusals 1 and 2
abbrev pub order_row : ℕ → Answered Unit
order_row n = row (not (is_order n)) Order

abbrev pub sweeps_row : ℕ → Answered Unit
sweeps_row sweeps = row (ltb most_sweeps sweeps) Sweeps

unfoldable pub sizes_answer : ℕ → ℕ → Answered Unit
sizes_answer n sweeps = table (order_row n ∷ sweeps_row sweeps ∷ [])
