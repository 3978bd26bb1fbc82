-- Document 01, "The printed sheet": what comes of a sheet that is read, run by the array and printed. Definitions only.
use Rattle.std.specs.Prelude.{ℕ, List, [], ◌∷◌, Result, Ok, Err, ltb, length}
use Rattle.refusal.specs.Answers.{Answered, given, refused_by, giving, unless_refused, row, table}
use Rattle.refusal.specs.declared.Refusal.{Refusal}
use Rattle.refusal.specs.declared.Refusal.TheVariants.{TooShort}
use Rattle.matrix.specs.Matrix.{flat}
use Rattle.runs.specs.Outcome.{Outcome}
use Rattle.runs.specs.State.{zeros}
use Rattle.array_run.specs.Results.{WholeReport}
use Rattle.array_run.specs.Whole.{ticks_answered, whole_of}
use Rattle.sheet.specs.Format.{order_in, sweeps_in, codes_in, entry_in}
use Rattle.sheet_reader.specs.Reader.{sheet_answer}
use Rattle.listing_text.specs.Printed.{Printing, printing, print_of, room_for}

-- What a listing answers, how many bytes it prints, and what the lent bytes hold.
pub record ListingOutcome : Type 0 where
  pub answer : Answered Unit
  pub count : ℕ
  pub bytes : List ℕ

abbrev pub listed : Answered Unit → Printing → ListingOutcome
listed a p = record { answer = a; count = p.count; bytes = p.bytes }

-- What comes of a listing that answers r, where the lent bytes hold t after it. A refusal prints nothing.
abbrev pub listing_answered : Result ℕ Refusal → List ℕ → ListingOutcome
listing_answered (Ok count) t = listed (given tt) (printing count t)
listing_answered (Err r) t = listed (refused_by r) (printing 0 t)

-- A sheet whose own refusals answer a, and whose run has the outcome o, printed into the lent bytes t: the sweeps that it asks for, the ticks that
-- were made. After its refusals come refusal 7 and those of the run. A refusal of any number prints nothing and leaves the bytes.
unfoldable pub listed_unless : Answered Unit → ℕ → ℕ → List ℕ → Outcome WholeReport → List ℕ → ListingOutcome
listed_unless a n sweeps codes o t =
    unless_refused (table (a ∷ row (ltb (length t) (room_for n)) TooShort ∷ giving tt o.answer ∷ []))
    (listed (given tt) (print_of n sweeps (ticks_answered o.answer) codes o.result o.vectors t))
    (λ (x : Answered Unit). listed x (printing 0 t))

-- The listing of the sheet b in the lent bytes t. The results of the run hold zeros before it.
unfoldable pub list_of : List ℕ → List ℕ → ListingOutcome
list_of b t =
    let n = order_in b in
    listed_unless (sheet_answer b) n (sweeps_in b) (codes_in b) (whole_of n (sweeps_in b) (flat n (entry_in b)) (zeros n) (zeros n)) t
