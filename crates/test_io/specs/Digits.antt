-- Numbers as their digits, in ASCII. Definitions only.
use Rattle.std.specs.Prelude.{ℕ, zero, suc, ◌+◌, ◌-◌, ◌/◌, ◌%◌, ◌^◌, ◌<◌, ◌≤◌, cond, List, [], ◌∷◌, ◌++◌, nat_lt}

-- The code of a digit below 16: 0 to 9, and then a to f.
abbrev pub digit_code : ℕ → ℕ
digit_code d = cond (nat_lt d 10) (48 + d) (87 + d)

-- The last k digits of n in base b, the highest first.
abbrev pub last_digits : ℕ → ℕ → ℕ → List ℕ
last_digits b zero n = []
last_digits b (suc k) n = last_digits b k (n / b) ++ (digit_code (n % b) ∷ [])

-- In base b the number n takes k digits, where it is written with no fewer than width.
abbrev pub IsDigitCount : ℕ → ℕ → ℕ → ℕ → Type 0
IsDigitCount b width n k = (width ≤ k) × (n < b ^ k) × (width < k → b ^ (k - 1) ≤ n)
