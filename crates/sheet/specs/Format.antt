-- Document 01, "A sheet", and document 02 (i): its bytes, and what stands in them. w is the width of its codes, the bytes that each has.
-- Rows and columns are numbered from 1, bytes from 0. Definitions only.
use Rattle.std.specs.Prelude.{ℕ, zero, suc, ◌+◌, ◌-◌, ◌*◌, ◌/◌, ◌%◌, ◌^◌, cond, List, eqb, ltb, get_or, Float}
use Rattle.std.specs.Float.{binary64}
use Rattle.std.specs.Float.Ieee.{of_bits, to_bits}
use Rattle.lists.specs.Tabulate.{tabulate}
use Rattle.sheet.specs.Codes.{width_for}

-- Sizes, codes of w bytes each, and the lower triangle of 8 bytes an entry.
abbrev pub sheet_length : ℕ → ℕ → ℕ
sheet_length w n = 2 + w * n + 4 * n * (n + 1)

-- Where the entries begin.
abbrev pub entries_from : ℕ → ℕ → ℕ
entries_from w n = 2 + w * n

-- ---- the first byte
-- What the long form, that of codes of two bytes, adds to it.
abbrev pub long_form : ℕ
long_form = 128

-- The order n, and in the long form n + 128.
unfoldable pub first_byte : ℕ → ℕ → ℕ
first_byte w n = cond (eqb w 2) (n + long_form) n

-- ---- the order of the entries
-- Row i is i entries up to its diagonal: the place after the one in row i and column j.
abbrev pub next_place : ℕ × ℕ → ℕ × ℕ
next_place p = cond (ltb p.1 p.0) (p.0, suc p.1) (suc p.0, 1)

-- The row and the column of entry e, from 0.
unfoldable pub entry_place : ℕ → ℕ × ℕ
entry_place zero = (1, 1)
entry_place (suc e) = next_place (entry_place e)

-- How many entries the rows 1 to i have.
unfoldable pub entries_to : ℕ → ℕ
entries_to zero = 0
entries_to (suc i) = entries_to i + suc i

-- The number of the entry in row i and column j.
unfoldable pub entry_number : ℕ → ℕ → ℕ
entry_number i j = entries_to (i - 1) + (j - 1)

-- ---- words of m bytes, the highest first
-- Byte k of the word v.
unfoldable pub byte_of : ℕ → ℕ → ℕ → ℕ
byte_of m v k = v / 256 ^ (m - 1 - k) % 256

-- The word of the k bytes from o on.
unfoldable pub word_from : List ℕ → ℕ → ℕ → ℕ
word_from b o zero = 0
word_from b o (suc k) = word_from b o k * 256 + get_or b (o + k) 0

-- ---- what is written
-- Byte k of the sheet of an order, a number of sweeps, codes and a matrix.
unfoldable pub sheet_byte : ℕ → ℕ → ℕ → List ℕ → (ℕ → ℕ → Float) → ℕ → ℕ
sheet_byte w n sweeps codes A k =
    cond (eqb k 0) (first_byte w n)
    (cond (eqb k 1) sweeps
    (cond (ltb k (entries_from w n)) (byte_of w (get_or codes ((k - 2) / w) 0) ((k - 2) % w))
    (let place = entry_place ((k - entries_from w n) / 8) in byte_of 8 (to_bits binary64 (A place.0 place.1)) ((k - entries_from w n) % 8))))

-- The length of the form that these codes have: the short one wherever every code fits a byte.
abbrev pub length_for : ℕ → List ℕ → ℕ
length_for n codes = sheet_length (width_for codes) n

unfoldable pub sheet_of : ℕ → ℕ → List ℕ → (ℕ → ℕ → Float) → List ℕ
sheet_of n sweeps codes A = tabulate (length_for n codes) (sheet_byte (width_for codes) n sweeps codes A)

-- ---- what is read
unfoldable pub width_in : List ℕ → ℕ
width_in b = cond (ltb (get_or b 0 0) long_form) 1 2

-- The first byte, after the 128 is taken off.
unfoldable pub order_in : List ℕ → ℕ
order_in b = cond (ltb (get_or b 0 0) long_form) (get_or b 0 0) (get_or b 0 0 - long_form)

abbrev pub sweeps_in : List ℕ → ℕ
sweeps_in b = get_or b 1 0

-- The length of its form.
abbrev pub length_in : List ℕ → ℕ
length_in b = sheet_length (width_in b) (order_in b)

-- Code k, from 0, where codes have w bytes.
unfoldable pub code_in : ℕ → List ℕ → ℕ → ℕ
code_in w b k = word_from b (2 + w * k) w

unfoldable pub codes_in : List ℕ → List ℕ
codes_in b = tabulate (order_in b) (code_in (width_in b) b)

-- The pattern of the stored entry in row i and column j, for j up to i.
unfoldable pub pattern_in : List ℕ → ℕ → ℕ → ℕ
pattern_in b i j = word_from b (entries_from (width_in b) (order_in b) + 8 * entry_number i j) 8

-- The matrix: above the diagonal the mirror bits.
unfoldable pub entry_in : List ℕ → ℕ → ℕ → Float
entry_in b i j = cond (ltb i j) (of_bits binary64 (pattern_in b j i)) (of_bits binary64 (pattern_in b i j))
