-- Document 02 (viii): joining two stations' sheets, one statement for each of its parts. b is the first sheet, d the
-- second, and l the lent bytes. What the call answers and what it leaves where it refuses is on the page `Refusals`.
-- Definitions only.
use Rattle.std.specs.Prelude.{ℕ, ◌+◌, ◌*◌, ◌≤◌, ◌<◌, max, ◌≡◌, List, ◌++◌, length, get_or, take, Float}
use Rattle.float64.specs.Values.{plus_zero}
use Rattle.refusal.specs.Answers.{given}
use Rattle.matrix.specs.Matrix.{at}
use Rattle.sheet.specs.Format.{sheet_length}
use Rattle.sheet_reader.specs.Reader.{ReadOutcome, read_of}
use Rattle.sheet_writer.specs.Writer.{write_of}
use Rattle.sheet_join.specs.Join.{join_of}
use Rattle.claims.specs.Sheets.{Bytes}

-- The sheet that a joining wrote, where it answers how many bytes these are.
abbrev pub joint_sheet : List ℕ → List ℕ → List ℕ → ℕ → List ℕ
joint_sheet b d l count = take count (join_of b d l).bytes

-- ---- what is read back
-- What is read of a joint sheet, r, beside what is read of the two sheets, x and y: the first's lines, then the
-- second's, zeros (+0) between the groups, and the larger of the two S. All entries are in place in every bit.
pub record BothInPlace (n m s t : ℕ) (x y r : ReadOutcome) : Type 0 where
  pub sizes : r.answer ≡ given (n + m, max s t)
  pub code_lists : r.codes ≡ x.codes ++ y.codes
  pub first_triangles : (i j : ℕ) → 1 ≤ i → i ≤ n → 1 ≤ j → j ≤ n → at (n + m) r.matrix i j ≡ at n x.matrix i j
  pub second_triangles : (i j : ℕ) → 1 ≤ i → i ≤ m → 1 ≤ j → j ≤ m
      → at (n + m) r.matrix (n + i) (n + j) ≡ at m y.matrix i j
  pub between_the_groups : (i j : ℕ) → 1 ≤ i → i ≤ n → 1 ≤ j → j ≤ m
      → (at (n + m) r.matrix i (n + j) ≡ plus_zero) × (at (n + m) r.matrix (n + j) i ≡ plus_zero)

-- Reading it back gives both triangles and all codes in place.
abbrev pub ReadBack : Type 0
ReadBack =
    (b d l c c' c'' : List ℕ) (k k' k'' : List Float) (n m s t count : ℕ)
    → Bytes b
    → Bytes d
    → (read_of b c k).answer ≡ given (n, s)
    → (read_of d c' k').answer ≡ given (m, t)
    → (join_of b d l).answer ≡ given count
    → length c'' ≡ n + m
    → length k'' ≡ (n + m) * (n + m)
    → BothInPlace n m s t (read_of b c k) (read_of d c' k') (read_of (joint_sheet b d l count) c'' k'')

-- ---- what is written
-- The call leaves what the writer leaves of what is read back.
abbrev pub LeftAsWritten : Type 0
LeftAsWritten =
    (b d l c : List ℕ) (k : List Float) (n s count : ℕ)
    → Bytes b
    → Bytes d
    → (join_of b d l).answer ≡ given count
    → (read_of (joint_sheet b d l count) c k).answer ≡ given (n, s)
    → (let r = read_of (joint_sheet b d l count) c k in join_of b d l ≡ write_of n s r.codes r.matrix l)

-- Two-byte codes where (i) demands them: the first byte is n, and with a code above 255 it is n + 128, where a code has
-- two bytes. No other sheet has this content (`Sheets`, one_sheet_a_content).
pub record FormOfBoth (n count : ℕ) (codes sheet : List ℕ) : Type 0 where
  pub short : ((k : ℕ) → k < length codes → get_or codes k 0 ≤ 255)
      → (get_or sheet 0 0 ≡ n) × (count ≡ sheet_length 1 n)
  pub long : (k : ℕ) → k < length codes → 255 < get_or codes k 0
      → (get_or sheet 0 0 ≡ n + 128) × (count ≡ sheet_length 2 n)

abbrev pub FormAsDemanded : Type 0
FormAsDemanded =
    (b d l c c' : List ℕ) (k k' : List Float) (n m s t count : ℕ)
    → Bytes b
    → Bytes d
    → (read_of b c k).answer ≡ given (n, s)
    → (read_of d c' k').answer ≡ given (m, t)
    → (join_of b d l).answer ≡ given count
    → FormOfBoth (n + m) count ((read_of b c k).codes ++ (read_of d c' k').codes) (joint_sheet b d l count)

-- ---- three stations
-- What is joined of three sheets is joined by either pair first: where one way is accepted and so many bytes are lent,
-- the other way is, and writes the same bytes.
pub record EitherPairFirst (a b c : List ℕ) : Type 0 where
  pub first_pair_first : (x y : List ℕ) (p q : ℕ)
      → (join_of a b x).answer ≡ given p
      → (join_of (joint_sheet a b x p) c y).answer ≡ given q
      → (x' y' : List ℕ) → q ≤ length x' → q ≤ length y'
      → (r : ℕ)
      × ((join_of b c x').answer ≡ given r)
      × ((join_of a (joint_sheet b c x' r) y').answer ≡ given q)
      × (joint_sheet a (joint_sheet b c x' r) y' q ≡ joint_sheet (joint_sheet a b x p) c y q)
  pub second_pair_first : (x y : List ℕ) (p q : ℕ)
      → (join_of b c x).answer ≡ given p
      → (join_of a (joint_sheet b c x p) y).answer ≡ given q
      → (x' y' : List ℕ) → q ≤ length x' → q ≤ length y'
      → (r : ℕ)
      × ((join_of a b x').answer ≡ given r)
      × ((join_of (joint_sheet a b x' r) c y').answer ≡ given q)
      × (joint_sheet (joint_sheet a b x' r) c y' q ≡ joint_sheet a (joint_sheet b c x p) y q)

pub record JoiningsAsStated : Type 0 where
  pub read_back : ReadBack
  pub left_as_written : LeftAsWritten
  pub form_as_demanded : FormAsDemanded
  pub either_pair_first : (a b c : List ℕ) → Bytes a → Bytes b → Bytes c → EitherPairFirst a b c
