-- Demand 1 (document 00; document 01, "Refused, by place"; document 02 (viii)): what each call answers, and what it
-- leaves where it refuses. The order of the tests is that of document 01's table, which applies from top to bottom, and
-- for joining that of document 02. What `is_order` accepts and the limits are on the page `Sizes`. Definitions only.
use Rattle.std.specs.Prelude.{ℕ, ◌+◌, ◌*◌, ◌≤◌, ◌<◌, ◌≡◌, Bool, true, false, not, cond, ◌&&◌, List, [], ◌∷◌, ◌++◌, ◌⊎◌, eqb, ltb, length, get_or, drop, Float}
use Rattle.std.specs.Float.{nan, binary64}
use Rattle.std.specs.Float.Ieee.{eq, lt, of_bits}
use Rattle.float64.specs.Values.{plus_zero, finite, same_bits}
use Rattle.refusal.specs.declared.Refusal.TheVariants.{Order, Sweeps, Length, Code, NotFinite, NotMirrored}
use Rattle.refusal.specs.declared.Refusal.TheVariants.{TooShort, Spoiled, NoRoot, SharedCode}
use Rattle.refusal.specs.Answers.{Answered, given, refused, refused_by, answered, giving, table}
use Rattle.root.specs.Exact.{sqrt_answer}
use Rattle.sizes.specs.Sizes.{is_order, largest_order, processors_of, steps_of, ticks_of}
use Rattle.ordering.specs.declared.PairList.{PairList}
use Rattle.ordering.specs.Pairs.{no_registers, Lists}
use Rattle.matrix.specs.Matrix.{at}
use Rattle.matrix.specs.Entries.{finite_row, mirror_row}
use Rattle.runs.specs.State.{start_of, zeros}
use Rattle.runs.specs.Outcome.{Outcome}
use Rattle.plain_run.specs.State.{spoiled}
use Rattle.plain_run.specs.Quiet.{report_of, answered_run_of}
use Rattle.step_records.specs.declared.Record.{Record}
use Rattle.step_records.specs.Records.{records_of}
use Rattle.array.specs.declared.Array.{Array}
use Rattle.array.specs.declared.Started.{Started}
use Rattle.array.specs.declared.Ticked.{Ticked}
use Rattle.array.specs.Arrays.{Ticks}
use Rattle.tile_schedule.specs.Answers.{made, stopped, progress_answered}
use Rattle.array.specs.Runs.{no_array, Starts}
use Rattle.array_run.specs.Results.{reporting}
use Rattle.array_run.specs.Whole.{whole_of}
use Rattle.sheet.specs.Format.{sheet_length, width_in, order_in, sweeps_in, codes_in, pattern_in}
use Rattle.sheet.specs.Codes.{bad_codes, long_codes, width_for}
use Rattle.sheet_reader.specs.Reader.{stored_row, sheet_answer, read_answer, read_of}
use Rattle.sheet_writer.specs.Writer.{write_of}
use Rattle.sheet_join.specs.Join.{shared_code, join_of}
use Rattle.claims.specs.Histories.{Binary64}

-- ---- the numbers of the cases, and a row of a table
-- 5 and 6 carry a row and a column; the others return the number alone.
pub record NumbersAsTabled : Type 0 where
  pub order_1 : refused_by {A = Unit} Order ≡ refused 1 []
  pub sweeps_2 : refused_by {A = Unit} Sweeps ≡ refused 2 []
  pub length_3 : refused_by {A = Unit} Length ≡ refused 3 []
  pub code_4 : refused_by {A = Unit} Code ≡ refused 4 []
  pub not_finite_5 : (r c : ℕ) → refused_by {A = Unit} (NotFinite r c) ≡ refused 5 (r ∷ c ∷ [])
  pub not_mirrored_6 : (r c : ℕ) → refused_by {A = Unit} (NotMirrored r c) ≡ refused 6 (r ∷ c ∷ [])
  pub too_short_7 : refused_by {A = Unit} TooShort ≡ refused 7 []
  pub spoiled_8 : refused_by {A = Unit} Spoiled ≡ refused 8 []
  pub no_root_9 : refused_by {A = Unit} NoRoot ≡ refused 9 []
  pub shared_code_10 : refused_by {A = Unit} SharedCode ≡ refused 10 []

-- The number k under a condition. A table answers by its first row that refuses.
abbrev pub when : Bool → ℕ → Answered Unit
when b k = cond b (refused k []) (given tt)

-- A length is that of a matrix of order n.
abbrev pub square : ℕ → ℕ → Bool
square n k = eqb k (n * n)

-- ---- the first entry in row order
-- The place in row i and column j stands before that in row r and column c.
abbrev pub Before : ℕ → ℕ → ℕ → ℕ → Type 0
Before i j r c = (i < r) ⊎ ((i ≡ r) × (j < c))

-- An entry that fails a test, after only such as pass it.
pub record FirstBad (There : ℕ → ℕ → Type 0) (good : ℕ → ℕ → Bool) (r c : ℕ) : Type 0 where
  pub there : There r c
  pub bad : good r c ≡ false
  pub good_before : (i j : ℕ) → There i j → Before i j r c → good i j ≡ true

-- All entries pass, or the refusal carries the row and the column of the first that does not.
pub data Tested (There : ℕ → ℕ → Type 0) (good : ℕ → ℕ → Bool) (number : ℕ) : Answered Unit → Type 0 where
  all_good : ((i j : ℕ) → There i j → good i j ≡ true) → Tested There good number (given tt)
  first_bad : (r c : ℕ) → FirstBad There good r c → Tested There good number (refused number (r ∷ c ∷ []))

-- The places of a matrix, those above its diagonal, and those of a sheet's entries.
abbrev pub InSquare : ℕ → ℕ → ℕ → Type 0
InSquare n r c = (1 ≤ r) × (r ≤ n) × (1 ≤ c) × (c ≤ n)

abbrev pub AboveDiagonal : ℕ → ℕ → ℕ → Type 0
AboveDiagonal n r c = (1 ≤ r) × (r < c) × (c ≤ n)

abbrev pub InTriangle : ℕ → ℕ → ℕ → Type 0
InTriangle n r c = (1 ≤ r) × (r ≤ n) × (1 ≤ c) × (c ≤ r)

-- The rows of a table for entries. 5 is for an entry that is not finite, in a sheet for one that it stores, and 6 for
-- one that differs from its mirror in bits.
pub record EntriesAreTested : Type 0 where
  pub not_finite : (n : ℕ) (l : List Float) → Tested (InSquare n) (λ r c. finite (at n l r c)) 5 (finite_row n l)
  pub not_mirrored : (n : ℕ) (l : List Float)
      → Tested (AboveDiagonal n) (λ r c. same_bits (at n l r c) (at n l c r)) 6 (mirror_row n l)
  pub stored_not_finite : (b : List ℕ)
      → Tested (InTriangle (order_in b)) (λ r c. finite (of_bits binary64 (pattern_in b r c))) 5 (stored_row b)

-- ---- square root
-- Refused by 9: not a number, or below zero. Every other value has a root, and a flag that says whether it is exact. A
-- refused root says nothing of exactness.
pub record RootAnswers : Type 0 where
  pub not_a_number : sqrt_answer nan ≡ refused 9 []
  pub below_zero : (x : Float) → lt x plus_zero ≡ true → sqrt_answer x ≡ refused 9 []
  pub others : (x : Float) → eq x x ≡ true → lt x plus_zero ≡ false → (r : Float × Bool) × (sqrt_answer x ≡ given r)

-- ---- list of pairs
abbrev pub PairsAnswer : Type 0
PairsAnswer =
    (n step : ℕ) (r : PairList) → Lists n step r
    → (answered r.answer ≡ table (when (not (is_order n)) 1 ∷ []))
    × (is_order n ≡ false → r.registers ≡ no_registers)

-- ---- runs
-- lr and lv are the lengths of the two results.
abbrev pub run_table : ℕ → ℕ → List Float → ℕ → ℕ → Answered Unit
run_table n sweeps l lr lv =
    table
    (when (not (is_order n)) 1
    ∷ when (ltb 16 sweeps) 2
    ∷ when (not (square n lr && (square n lv && square n (length l)))) 3
    ∷ finite_row n l
    ∷ mirror_row n l
    ∷ when (spoiled n (steps_of n sweeps) (start_of n l)) 8
    ∷ [])

abbrev pub PlainRunAnswers : Type 0
PlainRunAnswers =
    (n sweeps : ℕ) (l r v : List Float)
    → (answered_run_of n sweeps l r v).answer
    ≡ giving (report_of n sweeps (start_of n l)) (run_table n sweeps l (length r) (length v))

-- The array's run is refused as the plain run is, by 8 too. A refusal carries neither sweeps, ticks nor rounded pairs.
abbrev pub WholeRunAnswers : Type 0
WholeRunAnswers =
    (n sweeps : ℕ) (l r v : List Float) → Binary64 l
    → (let report = report_of n sweeps (start_of n l) in
    (whole_of n sweeps l r v).answer
    ≡ giving (reporting report (ticks_of n report.sweeps)) (run_table n sweeps l (length r) (length v)))

-- A refused run leaves both results as they were, but 8 fills them with +0.
pub record LeavesResults {A : Type 0} (n : ℕ) (o : Outcome A) (r v : List Float) : Type 0 where
  pub kept : (k : ℕ) (values : List ℕ) → o.answer ≡ refused k values → ¬ (k ≡ 8) → (o.result ≡ r) × (o.vectors ≡ v)
  pub zeroed : (values : List ℕ) → o.answer ≡ refused 8 values → (o.result ≡ zeros n) × (o.vectors ≡ zeros n)

abbrev pub RunsLeave : Type 0
RunsLeave =
    (n sweeps : ℕ) (l r v : List Float) → Binary64 l
    → LeavesResults n (answered_run_of n sweeps l r v) r v × LeavesResults n (whole_of n sweeps l r v) r v

-- ---- array by hand
-- A refused start gives zeros.
abbrev pub StartAnswers : Type 0
StartAnswers =
    (n sweeps : ℕ) (l : List Float) (s : Started) → Starts n sweeps l s
    → (answered s.answer ≡ table
    (when (not (is_order n)) 1
    ∷ when (ltb 16 sweeps) 2
    ∷ when (not (square n (length l) && (square n (length l) && square n (length l)))) 3
    ∷ finite_row n l
    ∷ mirror_row n l
    ∷ []))
    × ((k : ℕ) (values : List ℕ) → answered s.answer ≡ refused k values → s.array ≡ no_array)

-- A tick tests 1 and 2 only; where it is not made it gives its array back.
abbrev pub TickAnswers : Type 0
TickAnswers =
    (x : Array) (r : Ticked) → Ticks x r
    → (progress_answered r.answer
    ≡ giving (cond (ltb x.tick (ticks_of x.n x.sweeps)) made stopped)
    (table (when (not (is_order x.n)) 1 ∷ when (ltb 16 x.sweeps) 2 ∷ [])))
    × (¬ (progress_answered r.answer ≡ given made) → r.array ≡ x)

-- ---- records of a step
abbrev pub RecordsAnswer : Type 0
RecordsAnswer =
    (n : ℕ) (l : List Float) (step : ℕ) (ys : List Record)
    → (records_of n l step ys).answer ≡ table
    (when (not (is_order n)) 1
    ∷ when (not (square n (length l))) 3
    ∷ finite_row n l
    ∷ mirror_row n l
    ∷ when (ltb (length ys) (processors_of n)) 7
    ∷ [])

-- A refusal changes nothing, and a longer row keeps its tail.
abbrev pub RecordsLeave : Type 0
RecordsLeave =
    (n : ℕ) (l : List Float) (step : ℕ) (ys : List Record)
    → ((k : ℕ) (values : List ℕ) → (records_of n l step ys).answer ≡ refused k values → (records_of n l step ys).row ≡ ys)
    × (drop (processors_of n) (records_of n l step ys).row ≡ drop (processors_of n) ys)

-- ---- sheets
-- `bad_codes`: one of the codes is zero or used before; `long_codes`: one is above 255; `width_in`: the bytes of a code by
-- the sheet's first byte, `width_for` by the codes. long says that all lengths are right. Refusal 4 is for a bad code,
-- and then for a long sheet whose codes all fit a byte.
abbrev pub sheet_table : List ℕ → Bool → Answered Unit
sheet_table b long =
    table
    (when (ltb (length b) 2) 3
    ∷ when (not (is_order (order_in b))) 1
    ∷ when (ltb 16 (sweeps_in b)) 2
    ∷ when (not long) 3
    ∷ when (bad_codes (codes_in b)) 4
    ∷ when (eqb (width_in b) 2 && not (long_codes (codes_in b))) 4
    ∷ stored_row b
    ∷ [])

-- The length of its form.
abbrev pub length_is : List ℕ → Bool
length_is b = eqb (length b) (sheet_length (width_in b) (order_in b))

abbrev pub ReaderAnswers : Type 0
ReaderAnswers =
    (b c : List ℕ) (m : List Float)
    → (read_of b c m).answer ≡ giving (order_in b, sweeps_in b)
    (sheet_table b (eqb (length c) (order_in b) && (square (order_in b) (length m) && length_is b)))

-- Lent what the order asks for, a reader refuses a sheet by its bytes alone.
pub record SheetAnswers : Type 0 where
  pub by_bytes : (b : List ℕ) → sheet_answer b ≡ sheet_table b (length_is b)
  pub lent_right : (b : List ℕ) → read_answer b (order_in b) (order_in b * order_in b) ≡ sheet_answer b

abbrev pub ReaderLeaves : Type 0
ReaderLeaves =
    (b c : List ℕ) (m : List Float) (k : ℕ) (values : List ℕ)
    → (read_of b c m).answer ≡ refused k values
    → ((read_of b c m).codes ≡ c) × ((read_of b c m).matrix ≡ m)

-- It answers how many bytes it wrote, and 7 by the length of the form that it writes.
abbrev pub WriterAnswers : Type 0
WriterAnswers =
    (n sweeps : ℕ) (codes : List ℕ) (l : List Float) (b : List ℕ)
    → (write_of n sweeps codes l b).answer ≡ giving (sheet_length (width_for codes) n)
    (table
    (when (not (is_order n)) 1
    ∷ when (ltb 16 sweeps) 2
    ∷ when (not (eqb (length codes) n && square n (length l))) 3
    ∷ when (bad_codes codes) 4
    ∷ finite_row n l
    ∷ mirror_row n l
    ∷ when (ltb (length b) (sheet_length (width_for codes) n)) 7
    ∷ []))

-- A refusal changes nothing, and longer bytes keep their tail.
abbrev pub WriterLeaves : Type 0
WriterLeaves =
    (n sweeps : ℕ) (codes : List ℕ) (l : List Float) (b : List ℕ)
    → ((k : ℕ) (values : List ℕ) → (write_of n sweeps codes l b).answer ≡ refused k values
    → (write_of n sweeps codes l b).bytes ≡ b)
    × (let count = sheet_length (width_for codes) n in drop count (write_of n sweeps codes l b).bytes ≡ drop count b)

-- ---- joining two sheets
-- 10 is for a code in both.
pub record SharedCodes (codes others : List ℕ) : Type 0 where
  pub shared : shared_code codes others ≡ true
      → (k i : ℕ) × (k < length codes) × (i < length others) × (get_or codes k 0 ≡ get_or others i 0)
  pub apart : shared_code codes others ≡ false
      → (k i : ℕ) → k < length codes → i < length others → ¬ (get_or codes k 0 ≡ get_or others i 0)

-- The first sheet's refusal, then the second's; 10 for a code in both; then 1 for a joint order above the limit; then
-- 7. It answers how many bytes it wrote.
abbrev pub JoinAnswers : Type 0
JoinAnswers =
    (b d l : List ℕ)
    → (let n = order_in b + order_in d in
    let long = sheet_length (width_for (codes_in b ++ codes_in d)) n in
    (join_of b d l).answer ≡ giving long
    (table
    (sheet_answer b
    ∷ sheet_answer d
    ∷ when (shared_code (codes_in b) (codes_in d)) 10
    ∷ when (ltb largest_order n) 1
    ∷ when (ltb (length l) long) 7
    ∷ [])))

-- A refusal changes nothing, and longer bytes keep their tail.
abbrev pub JoinLeaves : Type 0
JoinLeaves =
    (b d l : List ℕ)
    → ((k : ℕ) (values : List ℕ) → (join_of b d l).answer ≡ refused k values → (join_of b d l).bytes ≡ l)
    × (let count = sheet_length (width_for (codes_in b ++ codes_in d)) (order_in b + order_in d) in
    drop count (join_of b d l).bytes ≡ drop count l)

pub record RefusedAsTabled : Type 0 where
  pub numbers_as_tabled : NumbersAsTabled
  pub entries_are_tested : EntriesAreTested
  pub root_answers : RootAnswers
  pub pairs_answer : PairsAnswer
  pub plain_run_answers : PlainRunAnswers
  pub whole_run_answers : WholeRunAnswers
  pub runs_leave : RunsLeave
  pub start_answers : StartAnswers
  pub tick_answers : TickAnswers
  pub records_answer : RecordsAnswer
  pub records_leave : RecordsLeave
  pub reader_answers : ReaderAnswers
  pub sheet_answers : SheetAnswers
  pub reader_leaves : ReaderLeaves
  pub writer_answers : WriterAnswers
  pub writer_leaves : WriterLeaves
  pub shared_codes : (codes others : List ℕ) → SharedCodes codes others
  pub join_answers : JoinAnswers
  pub join_leaves : JoinLeaves
