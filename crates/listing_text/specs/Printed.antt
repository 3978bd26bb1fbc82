-- Document 01, "The printed sheet". Definitions only.
use Rattle.std.specs.Prelude.{ℕ, zero, suc, ◌+◌, ◌*◌, Bool, cond, ◌&&◌, List, [], ◌∷◌, ◌++◌, eqb, ltb, leb, length, get_or, drop, Float}
use Rattle.std.specs.Float.{binary64}
use Rattle.std.specs.Float.Ieee.{to_bits}
use Rattle.sizes.specs.Sizes.{is_order}
use Rattle.matrix.specs.Matrix.{at}
use Rattle.text.specs.Text.{decimal_of, hex_of, space, newline}

-- A space and the bits of a value.
unfoldable pub value_field : Float → List ℕ
value_field x = space ++ hex_of 16 (to_bits binary64 x)

-- The fields of column c, of the rows 1 to k.
unfoldable pub column_of : (ℕ → ℕ → Float) → ℕ → ℕ → List ℕ
column_of E c zero = []
column_of E c (suc k) = column_of E c k ++ value_field (E (suc k) c)

-- The first text line.
unfoldable pub head_of : ℕ → ℕ → ℕ → List ℕ
head_of n sweeps ticks = decimal_of n ++ (space ++ (decimal_of sweeps ++ (space ++ (decimal_of ticks ++ newline))))

-- The text line of a code and its line k: the code, its diagonal entry, and that column of the eigenvectors from the top.
unfoldable pub text_line_of : ℕ → ℕ → (ℕ → ℕ → Float) → (ℕ → ℕ → Float) → ℕ → List ℕ
text_line_of n code A E k = decimal_of code ++ (value_field (A k k) ++ (column_of E k n ++ newline))

-- The first k text lines.
unfoldable pub text_lines_of : ℕ → List ℕ → (ℕ → ℕ → Float) → (ℕ → ℕ → Float) → ℕ → List ℕ
text_lines_of n codes A E zero = []
text_lines_of n codes A E (suc k) = text_lines_of n codes A E k ++ text_line_of n (get_or codes k 0) A E (suc k)

unfoldable pub printed_of : ℕ → ℕ → ℕ → List ℕ → (ℕ → ℕ → Float) → (ℕ → ℕ → Float) → List ℕ
printed_of n sweeps ticks codes A E = head_of n sweeps ticks ++ text_lines_of n codes A E n

-- Bytes that are enough for the text line of a code: 5 for the code, 17 for the diagonal entry, 17 for each value of the column, and a newline.
abbrev pub text_line_room : ℕ → ℕ
text_line_room n = 23 + 17 * n

-- Bytes that are enough for a first text line of 15 and n text lines of codes.
abbrev pub room_for : ℕ → ℕ
room_for n = 15 + n * text_line_room n

-- The sizes are those of a run, the sweeps and the ticks have at most 4 digits, and the bytes are enough.
unfoldable pub printable : ℕ → ℕ → ℕ → ℕ → ℕ → ℕ → ℕ → Bool
printable n sweeps ticks codes matrix vectors room =
    is_order n && (ltb sweeps 10000 && (ltb ticks 10000 && (eqb codes n && (eqb matrix (n * n) && (eqb vectors (n * n) && leb (room_for n) room)))))

-- How many bytes are printed, and what the lent bytes hold.
pub record Printing : Type 0 where
  pub count : ℕ
  pub bytes : List ℕ

abbrev pub printing : ℕ → List ℕ → Printing
printing k b = record { count = k; bytes = b }

unfoldable pub print_of : ℕ → ℕ → ℕ → List ℕ → List Float → List Float → List ℕ → Printing
print_of n sweeps ticks codes l e b =
    let s = printed_of n sweeps ticks codes (at n l) (at n e) in
    cond (printable n sweeps ticks (length codes) (length l) (length e) (length b)) (printing (length s) (s ++ drop (length s) b)) (printing 0 b)

-- The word refused and a space, and then the number of the refusal.
abbrev pub refused_word : List ℕ
refused_word = 114 ∷ 101 ∷ 102 ∷ 117 ∷ 115 ∷ 101 ∷ 100 ∷ space

abbrev pub refused_text : ℕ → List ℕ
refused_text k = refused_word ++ (decimal_of k ++ newline)

-- The text line of the refusal with the number k, in bytes that are enough for any.
unfoldable pub refusal_of : ℕ → List ℕ → Printing
refusal_of k b =
    let s = refused_text k in cond (ltb (length b) 13) (printing 0 b) (printing (length s) (s ++ drop (length s) b))
