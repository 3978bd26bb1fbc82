-- Text as lists of ASCII codes. Definitions only.
use Rattle.std.specs.Prelude.{ℕ, zero, suc, ◌+◌, ◌/◌, ◌%◌, ◌≡◌, cond, List, [], ◌∷◌, ◌++◌, ltb, length, take, drop}

-- The code of a digit below 16, with capital letters.
abbrev pub code_of : ℕ → ℕ
code_of d = cond (ltb d 10) (48 + d) (55 + d)

-- The digit of n at the unit u, and nothing where n is below u.
unfoldable pub shown_from : ℕ → ℕ → List ℕ
shown_from u n = cond (ltb n u) [] (code_of (n / u % 10) ∷ [])

-- A number below 100,000 in decimal, without zeros in front.
unfoldable pub decimal_of : ℕ → List ℕ
decimal_of n = shown_from 10000 n ++ (shown_from 1000 n ++ (shown_from 100 n ++ (shown_from 10 n ++ (code_of (n % 10) ∷ []))))

-- The last k hexadecimal digits of w.
unfoldable pub hex_of : ℕ → ℕ → List ℕ
hex_of zero w = []
hex_of (suc k) w = hex_of k (w / 16) ++ (code_of (w % 16) ∷ [])

abbrev pub space : List ℕ
space = 32 ∷ []

abbrev pub newline : List ℕ
newline = 10 ∷ []

-- What a text is after s is put into it from `at` on, and where s ends. The rest stays.
pub record Put (before : List ℕ) (at : ℕ) (s after : List ℕ) (end : ℕ) : Type 0 where
  pub ends : end ≡ at + length s
  pub begins : take end after ≡ take at before ++ s
  pub as_long : length after ≡ length before
  pub kept : drop end after ≡ drop end before
