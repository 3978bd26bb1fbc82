-- Document 01, "One rotation", last paragraph, and document 02 (ii) and (vii): the records of a step. Definitions only.
use Rattle.std.specs.Prelude.{ℕ, Bool, not, List, [], ◌∷◌, ltb, length, get_or, Float}
use Rattle.refusal.specs.Answers.{Answered, given, giving, value_or, unless_refused, row, table}
use Rattle.refusal.specs.declared.Refusal.TheVariants.{Length, TooShort}
use Rattle.float64.specs.Values.{plus_zero, one}
use Rattle.lists.specs.Over.{over}
use Rattle.rotation.specs.declared.Parameters.{Parameters}
use Rattle.rotation.specs.declared.Parameters.TheVariants.{Still, Turn}
use Rattle.rotation.specs.declared.Found.{Found}
use Rattle.ordering.specs.declared.Registers.{Registers}
use Rattle.sizes.specs.Sizes.{processors_of, order_row}
use Rattle.ordering.specs.Pairs.{registers_at}
use Rattle.matrix.specs.Matrix.{entry_of}
use Rattle.matrix.specs.Entries.{is_square, finite_row, mirror_row}
use Rattle.runs.specs.Blocks.{ruled_found}
use Rattle.matrix_turns.specs.Turns.{found_at}
use Rattle.step_records.specs.declared.Record.{Record}

-- Still is recorded as +0, 1, +0. Beside the three values stands whether both roots of the pair are exact.
abbrev pub record_with : Parameters → Bool → Record
record_with Still exact = record { t = plus_zero; c = one; s = plus_zero; exact = exact }
record_with (Turn t c s) exact = record { t = t; c = c; s = s; exact = exact }

abbrev pub record_of : Found → Record
record_of f = record_with f.parameters f.exact

-- The record of the pair in the registers r of processor k, here from 0, in the matrix l.
unfoldable pub record_at : ℕ → List Float → Registers → ℕ → Record
record_at n l r k = record_of (ruled_found n k (found_at (get_or r.left k 0) (get_or r.right k 0) (entry_of n l)))

-- What is refused: the table of document 01 from top to bottom. room is the length of the row.
unfoldable pub before_records : ℕ → List Float → ℕ → Answered Unit
before_records n l room =
    table
    (order_row n ∷ row (not (is_square n (length l))) Length ∷ finite_row n l ∷ mirror_row n l ∷ row (ltb room (processors_of n)) TooShort ∷ [])

-- What a call answers, and what the row holds after it.
pub record RowOutcome : Type 0 where
  pub answer : Answered Unit
  pub row : List Record

abbrev pub row_outcome : Answered Unit → List Record → RowOutcome
row_outcome a l = record { answer = a; row = l }

-- The outcome of a call with an order, a matrix and a step, from 0, where the row holds ys before: the first N records are written.
unfoldable pub records_of : ℕ → List Float → ℕ → List Record → RowOutcome
records_of n l step ys =
    unless_refused (before_records n l (length ys)) (row_outcome (given tt) (over (processors_of n) (record_at n l (registers_at n step)) ys))
    (λ a. row_outcome a ys)

-- How many records are written, by the answer.
abbrev pub written : ℕ → Answered Unit → ℕ
written n a = value_or (giving (processors_of n) a) 0
