-- Document 01, "Refused, by place", and document 02 (i): what the writer of sheets answers and leaves. Definitions only.
use Rattle.std.specs.Prelude.{ℕ, not, ◌&&◌, List, [], ◌∷◌, ◌++◌, eqb, ltb, length, drop, Float, Result}
use Rattle.refusal.specs.Answers.{Answered, given, answered_as, unless_refused, row, table}
use Rattle.refusal.specs.declared.Refusal.{Refusal}
use Rattle.refusal.specs.declared.Refusal.TheVariants.{Length, Code, TooShort}
use Rattle.sizes.specs.Sizes.{order_row, sweeps_row}
use Rattle.matrix.specs.Matrix.{at}
use Rattle.matrix.specs.Entries.{is_square, finite_row, mirror_row}
use Rattle.sheet.specs.Format.{length_for, sheet_of}
use Rattle.sheet.specs.Codes.{bad_codes}

-- The table from top to bottom. lb is the number of lent bytes.
unfoldable pub write_answer : ℕ → ℕ → List ℕ → List Float → ℕ → Answered Unit
write_answer n sweeps codes l lb =
    table
    (order_row n ∷ sweeps_row sweeps ∷ row (not (eqb (length codes) n && is_square n (length l))) Length ∷ row (bad_codes codes) Code ∷ finite_row n l
    ∷ mirror_row n l ∷ row (ltb lb (length_for n codes)) TooShort ∷ [])

-- What a writing answers, which is how many bytes it wrote, and what the lent bytes hold after it.
pub record WriteOutcome : Type 0 where
  pub answer : Answered ℕ
  pub bytes : List ℕ

abbrev pub write_outcome : Answered ℕ → List ℕ → WriteOutcome
write_outcome a b = record { answer = a; bytes = b }

abbrev pub writing_answered : Result ℕ Refusal → Answered ℕ
writing_answered = answered_as (λ count. count)

-- A longer buffer keeps its tail.
unfoldable pub overwritten : ℕ → ℕ → List ℕ → List Float → List ℕ → List ℕ
overwritten n sweeps codes l b = sheet_of n sweeps codes (at n l) ++ drop (length_for n codes) b

-- The outcome where nothing is refused.
abbrev pub written_of : ℕ → ℕ → List ℕ → List Float → List ℕ → WriteOutcome
written_of n sweeps codes l b = write_outcome (given (length_for n codes)) (overwritten n sweeps codes l b)

unfoldable pub write_of : ℕ → ℕ → List ℕ → List Float → List ℕ → WriteOutcome
write_of n sweeps codes l b = unless_refused (write_answer n sweeps codes l (length b)) (written_of n sweeps codes l b) (λ a. write_outcome a b)
