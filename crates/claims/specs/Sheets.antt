-- Demand 2 on sheets (document 00; document 01, "A sheet"; document 02 (i)), one statement for each of its parts.
-- Definitions only.
use Rattle.std.specs.Prelude.{ℕ, ◌+◌, ◌-◌, ◌*◌, ◌/◌, ◌%◌, ◌^◌, ◌≤◌, ◌<◌, ◌≡◌, List, [], ◌++◌, length, get_or, take, drop, Float}
use Rattle.std.specs.Float.{binary64}
use Rattle.std.specs.Float.Ieee.{to_bits}
use Rattle.refusal.specs.Answers.{given, refused}
use Rattle.matrix.specs.Matrix.{at}
use Rattle.sheet.specs.Codes.{width_for}
use Rattle.sheet.specs.Format.{sheet_length, width_in, order_in}
use Rattle.sheet_reader.specs.Reader.{read_outcome, read_of}
use Rattle.sheet_writer.specs.Writer.{write_outcome, write_of}
use Rattle.sheet_agreement.specs.ShortReader.{short_read_of}
use Rattle.claims.specs.Histories.{Binary64}

-- Every number is a byte's, as those of a lent slice are.
abbrev pub Bytes : List ℕ → Type 0
Bytes b = (i : ℕ) → get_or b i 0 < 256

-- Every number is a code's of two bytes, as those of a lent slice are.
abbrev pub Codes : List ℕ → Type 0
Codes c = (i : ℕ) → get_or c i 0 < 65536

-- ---- the two forms
-- How many bytes a code has. The writer uses the short form whenever every code fits a byte.
pub record FormsWritten (codes : List ℕ) : Type 0 where
  pub short : ((k : ℕ) → k < length codes → get_or codes k 0 ≤ 255) → width_for codes ≡ 1
  pub long : (k : ℕ) → k < length codes → 255 < get_or codes k 0 → width_for codes ≡ 2

-- A sheet whose first byte is n + 128 has codes of two bytes; without the 128 the first byte is n.
pub record FormsRead (b : List ℕ) : Type 0 where
  pub short : get_or b 0 0 < 128 → (width_in b ≡ 1) × (order_in b ≡ get_or b 0 0)
  pub long : 128 ≤ get_or b 0 0 → (width_in b ≡ 2) × (order_in b ≡ get_or b 0 0 - 128)

-- ---- place by place
-- Sizes first: n, in the long form n + 128, then S, one byte each. Then the line codes 1 to n, w bytes each, one in the
-- short form and two in the long form. Then the rows, row i being i entries of the lower triangle up to its diagonal, 8
-- bytes each. Codes and entries have their highest byte first. Bytes are counted from 0; q is 0 for the highest.
pub record SheetHolds (w : ℕ) (b : List ℕ) (n sweeps : ℕ) (codes : List ℕ) (l : List Float) : Type 0 where
  pub short_order : w ≡ 1 → get_or b 0 0 ≡ n
  pub long_order : w ≡ 2 → get_or b 0 0 ≡ n + 128
  pub sweep_count : get_or b 1 0 ≡ sweeps
  pub short_code : w ≡ 1 → (k : ℕ) → 1 ≤ k → k ≤ n → get_or b (1 + k) 0 ≡ get_or codes (k - 1) 0
  pub long_code : w ≡ 2 → (k : ℕ) → 1 ≤ k → k ≤ n → get_or b (2 * k) 0 * 256 + get_or b (2 * k + 1) 0 ≡ get_or codes (k - 1) 0
  pub entry : (i j : ℕ) → 1 ≤ j → j ≤ i → i ≤ n
      → (q : ℕ) → q < 8
      → get_or b (2 + w * n + 8 * (i * (i - 1) / 2 + (j - 1)) + q) 0 ≡ to_bits binary64 (at n l i j) / 256 ^ (7 - q) % 256

-- The lent bytes after a writing that is not refused.
abbrev pub WrittenInPlace : Type 0
WrittenInPlace =
    (n sweeps : ℕ) (codes : List ℕ) (l : List Float) (b : List ℕ) (count : ℕ)
    → Codes codes
    → (write_of n sweeps codes l b).answer ≡ given count
    → SheetHolds (width_for codes) (write_of n sweeps codes l b).bytes n sweeps codes l

-- A sheet that is not refused, and the lent codes and the lent matrix after its reading. Above the diagonal stand the
-- mirror bits.
abbrev pub ReadInPlace : Type 0
ReadInPlace =
    (b c : List ℕ) (m : List Float) (n sweeps : ℕ)
    → Bytes b
    → (read_of b c m).answer ≡ given (n, sweeps)
    → SheetHolds (width_in b) b n sweeps (read_of b c m).codes (read_of b c m).matrix
    × ((i j : ℕ) → 1 ≤ i → i < j → j ≤ n → at n (read_of b c m).matrix i j ≡ at n (read_of b c m).matrix j i)

-- ---- there and back
-- A sheet written is read as the same order, sweeps, codes and entries.
abbrev pub WrittenIsReadBack : Type 0
WrittenIsReadBack =
    (n sweeps : ℕ) (codes : List ℕ) (l : List Float) (b : List ℕ) (count : ℕ)
    → Codes codes
    → Binary64 l
    → (write_of n sweeps codes l b).answer ≡ given count
    → (c : List ℕ) (m : List Float) → length c ≡ n → length m ≡ n * n
    → read_of (take count (write_of n sweeps codes l b).bytes) c m ≡ read_outcome (given (n, sweeps)) codes l

-- A sheet accepted is written again, from what the reader left, as the same bytes.
abbrev pub AcceptedIsWrittenAgain : Type 0
AcceptedIsWrittenAgain =
    (b : List ℕ) → Bytes b
    → (c : List ℕ) (m : List Float) (n sweeps : ℕ)
    → (read_of b c m).answer ≡ given (n, sweeps)
    → (lent : List ℕ) → length b ≤ length lent
    → write_of n sweeps (read_of b c m).codes (read_of b c m).matrix lent
    ≡ write_outcome (given (length b)) (b ++ drop (length b) lent)

-- Two contents of a sheet are one.
pub record SameContent (n n' sweeps sweeps' : ℕ) (codes codes' : List ℕ) (l l' : List Float) : Type 0 where
  pub orders : n ≡ n'
  pub sweep_counts : sweeps ≡ sweeps'
  pub code_lists : codes ≡ codes'
  pub matrices : l ≡ l'

-- Two different accepted contents have different sheets: what is written alike is one.
abbrev pub OneContentASheet : Type 0
OneContentASheet =
    (n n' sweeps sweeps' : ℕ) (codes codes' : List ℕ) (l l' : List Float) (b b' : List ℕ) (count count' : ℕ)
    → Binary64 l
    → Binary64 l'
    → Codes codes
    → Codes codes'
    → (write_of n sweeps codes l b).answer ≡ given count
    → (write_of n' sweeps' codes' l' b').answer ≡ given count'
    → take count (write_of n sweeps codes l b).bytes ≡ take count' (write_of n' sweeps' codes' l' b').bytes
    → SameContent n n' sweeps sweeps' codes codes' l l'

-- Each set of codes has one form: two accepted sheets that are read alike are one.
abbrev pub OneSheetAContent : Type 0
OneSheetAContent =
    (b b' c c' : List ℕ) (m m' : List Float) (n sweeps : ℕ)
    → Bytes b
    → Bytes b'
    → (read_of b c m).answer ≡ given (n, sweeps)
    → (read_of b' c' m').answer ≡ given (n, sweeps)
    → (read_of b c m).codes ≡ (read_of b' c' m').codes
    → (read_of b c m).matrix ≡ (read_of b' c' m').matrix
    → b ≡ b'

-- ---- before document 02 (i)
-- `short_read_of` is the reader of document 01, but for odd orders, which it accepts as (ii) does
-- (crates/sheet_agreement/specs/ShortReader.antt). A first byte without the 128 reads as before, and old readers refuse
-- the long form by 1.
pub record ReadAsBefore : Type 0 where
  pub short : (b c : List ℕ) (m : List Float) → get_or b 0 0 < 128 → read_of b c m ≡ short_read_of b c m
  pub long : (b c : List ℕ) (m : List Float) → 2 ≤ length b → 128 ≤ get_or b 0 0
      → short_read_of b c m ≡ read_outcome (refused 1 []) c m

-- ---- lengths
-- Length 2 + n + 4 n (n + 1): 28 bytes for n = 2, 4,258 for n = 32. In the long form it grows by n.
pub record LengthsAsStated : Type 0 where
  pub short : (n : ℕ) → sheet_length 1 n ≡ 2 + n + 4 * n * (n + 1)
  pub long : (n : ℕ) → sheet_length 2 n ≡ sheet_length 1 n + n
  pub shortest : sheet_length 1 2 ≡ 28
  pub longest : sheet_length 1 32 ≡ 4258
  pub longest_long : sheet_length 2 32 ≡ 4290

pub record SheetsKept : Type 0 where
  pub forms_written : (codes : List ℕ) → FormsWritten codes
  pub forms_read : (b : List ℕ) → FormsRead b
  pub written_in_place : WrittenInPlace
  pub read_in_place : ReadInPlace
  pub written_is_read_back : WrittenIsReadBack
  pub accepted_is_written_again : AcceptedIsWrittenAgain
  pub one_content_a_sheet : OneContentASheet
  pub one_sheet_a_content : OneSheetAContent
  pub read_as_before : ReadAsBefore
  pub lengths_as_stated : LengthsAsStated
