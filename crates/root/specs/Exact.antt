-- Document 02 (vii): whether a square root is exact, and what the square root answers. Definitions only.
use Rattle.std.specs.Prelude.{ℕ, zero, suc, ◌*◌, ◌^◌, Bool, true, false, ◌==◌, Float, Result}
use Rattle.std.specs.Float.{nan, inf, fin}
use Rattle.refusal.specs.declared.Refusal.{Refusal}
use Rattle.refusal.specs.Answers.{Answered, given, refused, answered_as}
use Rattle.float64.specs.Units.{units_of}
use Rattle.root.specs.Sqrt.{root_units, sqrt_of}
use Rattle.root.specs.declared.Root.{Root}

-- The root of n units of 2 ^ -1074 is exact: with r units its square is the value.
unfoldable pub exact_units : ℕ → Bool
unfolding root_units
exact_units n = let r = units_of (root_units n) in (r * r == n * 2 ^ 1074)

-- The root of n units, and whether it is exact.
abbrev pub root_of_units : ℕ → Root
root_of_units n = record { value = root_units n; exact = exact_units n }

-- The zeros and +infinity are exact. Of a value whose root is refused nothing is said; here it stands as not exact.
unfoldable pub exact_root : Float → Bool
unfolding exact_units
exact_root nan = false
exact_root (inf true) = false
exact_root (inf false) = true
exact_root (fin s zero e) = true
exact_root (fin true (suc m) e) = false
exact_root (fin false (suc m) e) = exact_units (units_of (fin false (suc m) e))

-- A root beside whether it is exact. A refusal has no such flag.
abbrev pub flagged : Bool → Answered Float → Answered (Float × Bool)
flagged exact (given y) = given (y, exact)
flagged exact (refused k values) = refused k values

-- What the square root of x answers.
abbrev pub sqrt_answer : Float → Answered (Float × Bool)
sqrt_answer x = flagged (exact_root x) (sqrt_of x)

-- An answer in the numbers of document 01.
abbrev pub root_answered : Result Root Refusal → Answered (Float × Bool)
root_answered = answered_as (λ r. (r.value, r.exact))
