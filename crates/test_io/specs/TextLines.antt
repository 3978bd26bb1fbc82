-- The text lines that the crate reads and writes, as lists of ASCII codes. Definitions only.
use Rattle.std.specs.Prelude.{◌≡◌, cond, List, [], ◌∷◌, ◌++◌}
use Rattle.std.specs.Prelude.{ℕ, zero, suc, ◌+◌, ◌-◌, ◌*◌, ltb, leb, eqb, length, take, get_or, Option, Some, None, IfSome}
use Rattle.std.specs.Io.KnownBytes.{Appends, Consumes}
use Rattle.text.specs.Text.{hex_of, newline}
use Rattle.test_io.specs.Digits.{last_digits, IsDigitCount}

-- The digit that b is the code of.
unfoldable pub digit_of : ℕ → Option ℕ
digit_of b = cond (ltb b 48) None (cond (leb b 57) (Some (b - 48)) (cond (ltb b 65) None (cond (leb b 70) (Some (b - 55)) None)))

-- The text line of n: 16 digits and a newline.
unfoldable pub word_text_line : ℕ → List ℕ
word_text_line n = hex_of 16 n ++ newline

-- What is read so far, and the digit after it.
unfoldable pub then : Option ℕ → Option ℕ → Option ℕ
then None d = None
then (Some n) None = None
then (Some n) (Some d) = Some (n * 16 + d)

-- What the first k bytes of a text line spell.
unfoldable pub spelt : ℕ → List ℕ → Option ℕ
unfolding then digit_of
spelt zero s = Some 0
spelt (suc k) s = then (spelt k s) (digit_of (get_or s k 0))

-- What is read, where the byte b is the last of its text line.
unfoldable pub ended : Option ℕ → ℕ → Option ℕ
ended None b = None
ended (Some n) b = cond (eqb b 10) (Some n) None

-- What stands in a text line: 16 digits and a newline, or nothing that can be read.
unfoldable pub word_of : List ℕ → Option ℕ
unfolding spelt ended
word_of s = ended (spelt 16 s) (get_or s 16 0)

-- What the first text line of bytes says. Fewer than 17 bytes are no text line.
abbrev pub first_word : List ℕ → Option ℕ
first_word s = cond (ltb (length s) 17) None (word_of (take 17 s))

-- Where it is known which bytes are left to read, the line is the first of them, and they lose it.
abbrev pub ReadsWord : Option (List ℕ) → Option (List ℕ) → Option ℕ → Type 0
ReadsWord old new line = IfSome old (λ s. line ≡ first_word s) × IfSome old (λ s. Consumes old new (take 17 s))

-- A word, a space, n in decimal and a newline.
pub record Numbered (word : List ℕ) (n : ℕ) (text : List ℕ) : Type 0 where
  pub count : ℕ
  pub fewest : IsDigitCount 10 1 n count
  pub is : text ≡ word ++ (32 ∷ (last_digits 10 count n ++ (10 ∷ [])))

-- Where it is known which bytes are written, they grow by a word, a space, n in decimal and a newline.
abbrev pub AppendsNumber : Option (List ℕ) → Option (List ℕ) → List ℕ → ℕ → Type 0
AppendsNumber old new word n = (text : List ℕ) × Numbered word n text × Appends old new text
