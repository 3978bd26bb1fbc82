-- Document 01, "The printed sheet", and document 02 (i) and (vi): what the listing of a sheet answers and leaves in the
-- lent text. Text is a list of ASCII codes. Definitions only.
use Rattle.std.specs.Prelude.{ℕ, zero, suc, ◌+◌, ◌*◌, ◌≤◌, ◌≡◌, List, [], ◌∷◌, ◌++◌, ltb, length, get_or, drop, Float}
use Rattle.refusal.specs.Answers.{given, refused, giving, table}
use Rattle.matrix.specs.Matrix.{at, flat}
use Rattle.runs.specs.State.{zeros}
use Rattle.runs.specs.Outcome.{Outcome}
use Rattle.array_run.specs.Results.{WholeReport}
use Rattle.array_run.specs.Whole.{whole_of}
use Rattle.sheet.specs.Format.{order_in, sweeps_in, codes_in, entry_in}
use Rattle.sheet_reader.specs.Reader.{sheet_answer}
use Rattle.text.specs.Text.{decimal_of, hex_of, space, newline}
use Rattle.listing_text.specs.Printed.{value_field, column_of, room_for, printing, refusal_of}
use Rattle.listing.specs.Listing.{ListingOutcome, list_of}
use Rattle.claims.specs.Refusals.{when}

-- The array's run on what the sheet b holds; its results hold zeros before it.
abbrev pub run_in : List ℕ → Outcome WholeReport
run_in b = whole_of (order_in b) (sweeps_in b) (flat (order_in b) (entry_in b)) (zeros (order_in b)) (zeros (order_in b))

-- Refusals of the sheet come first, then 7 for a text that may be too short, then those of the run.
abbrev pub ListingAnswers : Type 0
ListingAnswers =
    (b t : List ℕ)
    → (list_of b t).answer ≡ table
    (sheet_answer b
    ∷ when (ltb (length t) (15 + order_in b * (23 + 17 * order_in b))) 7
    ∷ giving tt (run_in b).answer
    ∷ [])

-- A refusal prints nothing and leaves the text as it was.
abbrev pub ListingLeaves : Type 0
ListingLeaves =
    (b t : List ℕ) (k : ℕ) (values : List ℕ)
    → (list_of b t).answer ≡ refused k values
    → ((list_of b t).count ≡ 0) × ((list_of b t).bytes ≡ t)

-- ---- what is printed
-- Fields are parted by one space, and a newline ends each line.
abbrev pub head_printed : ℕ → ℕ → ℕ → List ℕ
head_printed n sweeps ticks = decimal_of n ++ (space ++ (decimal_of sweeps ++ (space ++ (decimal_of ticks ++ newline))))

-- A code, its diagonal entry's bits, and that column of the eigenvectors from the top, as bits: `value_field` is a space
-- and 16 hexadecimal digits, `column_of E c k` the fields of column c in the rows 1 to k.
abbrev pub code_printed : ℕ → ℕ → (ℕ → ℕ → Float) → (ℕ → ℕ → Float) → ℕ → List ℕ
code_printed n code A E k = decimal_of code ++ (value_field (A k k) ++ (column_of E k n ++ newline))

-- The first k of these lines.
unfoldable pub codes_printed : ℕ → List ℕ → (ℕ → ℕ → Float) → (ℕ → ℕ → Float) → ℕ → List ℕ
codes_printed n codes A E zero = []
codes_printed n codes A E (suc k) = codes_printed n codes A E k ++ code_printed n (get_or codes k 0) A E (suc k)

-- First line: n, the sheet's own S, and the ticks of the sweeps made. Then a line for each code, so for the real lines
-- only.
abbrev pub sheet_printed : List ℕ → ℕ → List ℕ
sheet_printed b ticks =
    let n = order_in b in
    head_printed n (sweeps_in b) ticks ++ codes_printed n (codes_in b) (at n (run_in b).result) (at n (run_in b).vectors) n

-- Accepted, with s put into the lent text t, whose rest stays.
abbrev pub listed_as : List ℕ → List ℕ → ListingOutcome
listed_as s t = record { answer = given tt; count = length s; bytes = s ++ drop (length s) t }

-- The print of an accepted sheet whose run is not refused, and after it the rest of the lent text.
abbrev pub ListingPrints : Type 0
ListingPrints =
    (b t : List ℕ) (reported : WholeReport)
    → sheet_answer b ≡ given tt
    → (run_in b).answer ≡ given reported
    → room_for (order_in b) ≤ length t
    → list_of b t ≡ listed_as (sheet_printed b reported.ticks) t

-- ---- document 01's example
-- Its sheet, 02 01 07 09 and three entries of 1, and its print. And the same with the codes 300 and 7, which is a long
-- sheet: 82 01 01 2C 00 07 and the entries.
abbrev pub one8 : List ℕ
one8 = 0x3f ∷ 0xf0 ∷ 0 ∷ 0 ∷ 0 ∷ 0 ∷ 0 ∷ 0 ∷ []

abbrev pub example_sheet : List ℕ
example_sheet = 0x02 ∷ 0x01 ∷ 0x07 ∷ 0x09 ∷ (one8 ++ (one8 ++ one8))

abbrev pub long_sheet : List ℕ
long_sheet = 0x82 ∷ 0x01 ∷ 0x01 ∷ 0x2c ∷ 0x00 ∷ 0x07 ∷ (one8 ++ (one8 ++ one8))

abbrev pub field : ℕ → List ℕ
field w = space ++ hex_of 16 w

-- With the codes c and d, as they are printed.
abbrev pub example_print : List ℕ → List ℕ → List ℕ
example_print c d =
    (decimal_of 2 ++ (space ++ (decimal_of 1 ++ (space ++ (decimal_of 4 ++ newline)))))
    ++ ((c ++ (field 0 ++ (field 0x3FE6A09E667F3BCC ++ (field 0xBFE6A09E667F3BCC ++ newline))))
    ++ (d ++ (field 0x4000000000000000
    ++ (field 0x3FE6A09E667F3BCC ++ (field 0x3FE6A09E667F3BCC ++ newline)))))

pub record ExamplesPrinted (t : List ℕ) : Type 0 where
  pub short : list_of example_sheet t ≡ listed_as (example_print (0x37 ∷ []) (0x39 ∷ [])) t
  pub long : list_of long_sheet t ≡ listed_as (example_print (0x33 ∷ 0x30 ∷ 0x30 ∷ []) (0x37 ∷ [])) t

-- ---- a refusal
-- What is printed for the refusal with the number k: `refused`, a space and the number, no more.
abbrev pub refusal_printed : ℕ → List ℕ
refusal_printed k = 0x72 ∷ 0x65 ∷ 0x66 ∷ 0x75 ∷ 0x73 ∷ 0x65 ∷ 0x64 ∷ 0x20 ∷ (decimal_of k ++ newline)

abbrev pub RefusalPrints : Type 0
RefusalPrints =
    (k : ℕ) (t : List ℕ) → 13 ≤ length t
    → refusal_of k t
    ≡ printing (length (refusal_printed k)) (refusal_printed k ++ drop (length (refusal_printed k)) t)

pub record ListingsAsStated : Type 0 where
  pub answers : ListingAnswers
  pub leaves : ListingLeaves
  pub prints : ListingPrints
  pub examples : (t : List ℕ) → room_for 2 ≤ length t → ExamplesPrinted t
  pub refusal_prints : RefusalPrints
