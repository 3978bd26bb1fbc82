-- Document 01, "Square root": the f64 nearest to the exact root, judged by squares of whole numbers. Definitions only.
use Rattle.std.specs.Prelude.{ℕ, zero, suc, ◌+◌, ◌*◌, ◌/◌, ◌^◌, true, false, cond, [], nat_le, nat_lt, Float}
use Rattle.std.specs.Float.{nan, inf, fin}
use Rattle.std.specs.Float.Ieee.{size, odd}
use Rattle.refusal.specs.Answers.{Answered, given, refused}
use Rattle.float64.specs.Units.{units_of}

-- The whole part of the root of an n below 4 ^ k, a digit at a time.
unfoldable pub whole_root : ℕ → ℕ → ℕ
whole_root zero n = 0
whole_root (suc k) n = let r = 2 * whole_root k (n / 4) in cond (nat_le ((r + 1) * (r + 1)) n) (r + 1) r

-- The whole number nearest to the root of a w below 4 ^ 53: r or r + 1. The middle of the two is (2 r + 1) / 2, and no w has it as its root.
unfoldable pub nearest_root : ℕ → ℕ
unfolding whole_root
nearest_root w = let r = whole_root 53 w in cond (nat_lt ((2 * r + 1) * (2 * r + 1)) (4 * w)) (r + 1) r

-- The root of a value of n units of 2 ^ -1074, for an n above 0. With 2 h the number of n's binary digits, or one more where that is odd,
-- w = n * 4 ^ 53 / 4 ^ h has 105 or 106 digits, so its nearest root q has the 53 digits of an f64, and the value's root is q * 2 ^ (484 + h) units.
unfoldable pub root_units : ℕ → Float
unfolding size odd nearest_root
root_units n = let h = (size n + 1) / 2 in odd 53 false (nearest_root (n * 4 ^ 53 / 4 ^ h)) (484 + h) 1074

-- The zeros and +infinity give themselves; a NaN and every value below zero are refused by 9.
unfoldable pub sqrt_of : Float → Answered Float
unfolding root_units
sqrt_of nan = refused 9 []
sqrt_of (inf true) = refused 9 []
sqrt_of (inf false) = given (inf false)
sqrt_of (fin s zero e) = given (fin s zero e)
sqrt_of (fin true (suc m) e) = refused 9 []
sqrt_of (fin false (suc m) e) = given (root_units (units_of (fin false (suc m) e)))
