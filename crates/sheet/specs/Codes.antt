-- Document 01, "A sheet", and document 02 (i): the line codes, and how many bytes each of them has. Definitions only.
use Rattle.std.specs.Prelude.{ℕ, Bool, cond, ◌||◌, List, eqb, ltb, length, get_or}
use Rattle.lists.specs.Bounded.{any}

-- Code k, from 0, is zero, or one of those before it.
unfoldable pub bad_code : List ℕ → ℕ → Bool
bad_code codes k = eqb (get_or codes k 0) 0 || any k (λ i. eqb (get_or codes i 0) (get_or codes k 0))

-- One of the codes is zero, or used before.
unfoldable pub bad_codes : List ℕ → Bool
bad_codes codes = any (length codes) (bad_code codes)

-- One of the codes does not fit a byte.
unfoldable pub long_codes : List ℕ → Bool
long_codes codes = any (length codes) (λ k. ltb 255 (get_or codes k 0))

-- The bytes of each code in the sheet of these codes: one wherever every code fits a byte.
unfoldable pub width_for : List ℕ → ℕ
width_for codes = cond (long_codes codes) 2 1
