-- What the C functions answer and leave, by the definitions of the calls. Definitions only.
use Rattle.std.specs.Prelude.{ℕ, ◌*◌, ◌/◌, ◌%◌, Bool, cond, ◌||◌, ◌&&◌, List, [], ◌∷◌, ◌++◌, ltb, eqb, length, get_or, drop, Float}
use Rattle.refusal.specs.Answers.{Answered, given, refused, value_or, table}
use Rattle.refusal.specs.Refusal.{number_of}
use Rattle.refusal.specs.declared.Refusal.TheVariants.{Length, TooShort}
use Rattle.lists.specs.Tabulate.{tabulate}
use Rattle.rotation.specs.declared.Parameters.{Parameters}
use Rattle.rotation.specs.declared.Parameters.TheVariants.{Still, Turn}
use Rattle.rotation.specs.declared.Found.{Found}
use Rattle.sizes.specs.Sizes.{is_order, processors_of, order_row}
use Rattle.forecast.specs.declared.Figures.{Figures}
use Rattle.ordering.specs.Pairs.{or_none, registers_at}
use Rattle.runs.specs.Outcome.{Outcome, Report, report, before_run}
use Rattle.step_records.specs.declared.Record.{Record}
use Rattle.step_records.specs.Records.{record_of, record_at, before_records}
use Rattle.tile_schedule.specs.Answers.{Tick, made, stopped, progress_of}
use Rattle.array.specs.declared.Array.{Array}
use Rattle.array.specs.Arrays.{array_of}
use Rattle.array.specs.Runs.{start_answer, started_of}
use Rattle.array_run.specs.Results.{WholeReport, reporting}
use Rattle.array_words.specs.Words.{array_words, words_of, array_in}
use Rattle.sheet_reader.specs.Reader.{ReadOutcome}
use Rattle.sheet_writer.specs.Writer.{WriteOutcome}
use Rattle.listing.specs.Listing.{ListingOutcome}
use Rattle.capi.specs.CAnswers.{CAnswer, c_answer_of, number_answered}

-- What a lent byte holds for a flag.
abbrev pub flag_byte : Bool → ℕ
flag_byte b = cond b 1 0

-- ---- a root: the number, and what is lent for the root and for its flag
abbrev pub of_root : Answered (Float × Bool) → Float → ℕ → ℕ × Float × ℕ
of_root (given y) x exact = (0, y.0, flag_byte y.1)
of_root (refused k values) x exact = (k, x, exact)

-- ---- a forecast: the number, and what is lent for the value
unfoldable pub number_and_value : {A : Type 0} → Answered A → A → ℕ × A
number_and_value a y = (number_answered a, value_or a y)

-- The figures of a forecast as they are lent.
abbrev pub figures : ℕ → ℕ → ℕ → Figures
figures ticks values parameters = record { ticks = ticks; values = values; parameters = parameters }

-- ---- parameters: 1 for a turn and 0 for still, the record, and its flag
abbrev pub turns : Parameters → ℕ
turns Still = 0
turns (Turn t c s) = 1

unfoldable pub of_parameters : Found → ℕ × Float × Float × Float × ℕ
of_parameters f = (turns f.parameters, (record_of f).t, (record_of f).c, (record_of f).s, flag_byte f.exact)

-- ---- the list of pairs, in two lists: zeros above the last processor
unfoldable pub pairs_too_short : ℕ → ℕ → ℕ → Bool
pairs_too_short n lefts rights = is_order n && (ltb lefts (processors_of n) || ltb rights (processors_of n))

unfoldable pub listed_in : List ℕ → List ℕ → List ℕ
listed_in registers l = tabulate (length l) (λ k. get_or registers k 0)

unfoldable pub pairs_of : ℕ → ℕ → List ℕ → List ℕ → ℕ × List ℕ × List ℕ
pairs_of n step ls rs =
    let R = or_none n (registers_at n step) in
    cond (pairs_too_short n (length ls) (length rs)) (number_of TooShort, ls, rs)
    (number_answered (table (order_row n ∷ [])), listed_in R.left ls, listed_in R.right rs)

-- ---- the records of a step: t, c and s of one processor after the other, and their flags in another list
-- How many records there is room for.
unfoldable pub records_room : ℕ → ℕ → ℕ
records_room values flags = cond (ltb flags (values / 3)) flags (values / 3)

unfoldable pub record_field : Record → ℕ → Float
record_field x k = cond (eqb k 0) x.t (cond (eqb k 1) x.c x.s)

unfoldable pub record_fields : ℕ → List Float → ℕ → ℕ → Float
record_fields n l step k = record_field (record_at n l (registers_at n step) (k / 3)) (k % 3)

abbrev pub records_left : Answered Unit → ℕ → List Float → ℕ → List Float → List Float
records_left (given x) n l step row = tabulate (processors_of n * 3) (record_fields n l step) ++ drop (processors_of n * 3) row
records_left (refused k values) n l step row = row

unfoldable pub record_flag : ℕ → List Float → ℕ → ℕ → ℕ
record_flag n l step k = flag_byte (record_at n l (registers_at n step) k).exact

abbrev pub flags_left : Answered Unit → ℕ → List Float → ℕ → List ℕ → List ℕ
flags_left (given x) n l step flags = tabulate (processors_of n) (record_flag n l step) ++ drop (processors_of n) flags
flags_left (refused k values) n l step flags = flags

unfoldable pub of_records : ℕ → List Float → ℕ → List Float → List ℕ → ℕ → ℕ → CAnswer × List Float × List ℕ
of_records n l step row flags i j =
    let a = before_records n l (records_room (length row) (length flags)) in (c_answer_of a i j, records_left a n l step row, flags_left a n l step flags)

-- ---- a run: the sweeps made, for the array's run the ticks, the pairs with a rounded root, and two results
unfoldable pub of_run : Outcome Report → ℕ → ℕ → ℕ → ℕ → CAnswer × ℕ × ℕ × List Float × List Float
of_run o sweeps rounded i j =
    let r = value_or o.answer (report sweeps rounded) in (c_answer_of o.answer i j, r.sweeps, r.rounded, o.result, o.vectors)

unfoldable pub of_whole : Outcome WholeReport → ℕ → ℕ → ℕ → ℕ → ℕ → CAnswer × ℕ × ℕ × ℕ × List Float × List Float
of_whole o sweeps ticks rounded i j =
    let r = value_or o.answer (reporting (report sweeps rounded) ticks) in
    (c_answer_of o.answer i j, r.report.sweeps, r.ticks, r.report.rounded, o.result, o.vectors)

-- ---- a sheet: the order and the sweeps, the codes and the matrix; how many bytes are written, and the bytes
unfoldable pub of_reading : ReadOutcome → ℕ → ℕ → ℕ → ℕ → CAnswer × (ℕ × ℕ) × List ℕ × List Float
of_reading o n sweeps i j = (c_answer_of o.answer i j, value_or o.answer (n, sweeps), o.codes, o.matrix)

abbrev pub of_written : Answered ℕ → ℕ → ℕ → ℕ → CAnswer × ℕ
of_written a written i j = (c_answer_of a i j, value_or a written)

unfoldable pub of_writing : WriteOutcome → ℕ → ℕ → ℕ → CAnswer × ℕ × List ℕ
of_writing o written i j = (c_answer_of o.answer i j, value_or o.answer written, o.bytes)

-- ---- a listing: how many bytes are printed, and the text
unfoldable pub of_listing : ListingOutcome → ℕ → ℕ → CAnswer × ℕ × List ℕ
of_listing o i j = (c_answer_of o.answer i j, o.count, o.bytes)

-- ---- the array by hand, in words. Words of another length are refused by 3, as results would be.
unfoldable pub of_start : ℕ → ℕ → List Float → List ℕ → ℕ → ℕ → CAnswer × List ℕ
of_start n sweeps l w i j =
    cond (eqb (length w) array_words) (c_answer_of (start_answer n sweeps l) i j, words_of (started_of (start_answer n sweeps l) n sweeps l))
    (c_answer_of (before_run n sweeps l 0 0) i j, w)

-- 1 for a tick that is made and 0 for one that is stopped or refused, by what a tick of the array x answers
abbrev pub ticked_as : Answered Tick → Array → List ℕ → ℕ × ℕ × List ℕ
ticked_as (given made) x w = (0, 1, words_of (array_of (given made) x))
ticked_as (given stopped) x w = (0, 0, w)
ticked_as (refused k values) x w = (k, 0, w)

unfoldable pub of_tick : List ℕ → ℕ × ℕ × List ℕ
of_tick w =
    let x = array_in w in
    cond (eqb (length w) array_words) (ticked_as (progress_of x.n x.sweeps x.tick) x w) (number_of Length, 0, w)
