-- The flag of a root is IEEE 754-2019's: it is exact where its square is the value, and inexact where it differs from the root that is not rounded.
-- Assumes nothing.
use Rattle.std.proofs.Common.{◌≡◌, ℕ, zero, suc, ◌*◌, ◌^◌, ◌<◌, true, false, eqb, sym, refl, ap, ◌∙◌, true≢false, mul-pos, eq-eqb, eqb-true}
use native.Mathlib.Nat.{mul-mul-mul_comm, eq_of_mul-eq-mul_right}
use lib.Ieee.{Float, nan, inf, fin}
use Rattle.refusal.specs.Answers.{Answered, value_or}
use Rattle.float64.specs.Values.{finite}
use Rattle.float64.specs.Units.{units_of}
use Rattle.float64.proofs.Units.{zero_units}
use Rattle.float64.proofs.Order.{Magnitude}
use Rattle.root.specs.Sqrt.{sqrt_of}
use Rattle.root.specs.Exact.{exact_units, exact_root}
use Rattle.root.proofs.Squares.{square_unique}
use Rattle.root.proofs.CorrectRounding.{RootOf, exact}

flag_test : (x r : Float) → RootOf x r → exact_root x ≡ eqb (units_of r * units_of r) (units_of x * 2 ^ 1074)
unfolding finite sqrt_of exact_root exact_units
flag_test nan r h = absurd h.value.is_finite
flag_test (inf s) r h = absurd h.value.is_finite
flag_test (fin true m e) r h = absurd (true≢false h.value.unsigned)
flag_test (fin false zero e) r h =
    let z : units_of (fin false zero e) ≡ 0 = zero_units false e in
    let u : units_of r ≡ 0 = sym (ap (λ (a : Answered Float). units_of (value_or a nan)) h.is) ∙ z in
    sym
    (eq-eqb (units_of r * units_of r) (units_of (fin false zero e) * 2 ^ 1074) (ap (λ (n : ℕ). n * n) u ∙ ap (λ (n : ℕ). n * 2 ^ 1074) (sym z)))
flag_test (fin false (suc m) e) r h =
    ap (λ (a : Answered Float). eqb (units_of (value_or a nan) * units_of (value_or a nan)) (units_of (fin false (suc m) e) * 2 ^ 1074)) h.is

-- The flag is true exactly where the root's square is the value, in units.
pub exact_flag : (x r : Float) → RootOf x r
    → (exact_root x ≡ true → units_of r * units_of r ≡ units_of x * 2 ^ 1074) × (units_of r * units_of r ≡ units_of x * 2 ^ 1074 → exact_root x ≡ true)
exact_flag x r h = (λ e. eqb-true _ _ (sym (flag_test x r h) ∙ e), λ e. flag_test x r h ∙ eq-eqb _ _ e)

-- Where a value of binary64 has x as its square, the flag is true.
pub exact_if_held : (x r y : Float) → RootOf x r → Magnitude y → units_of y * units_of y ≡ units_of x * 2 ^ 1074 → exact_root x ≡ true
exact_if_held x r y h m e = (exact_flag x r h).1 (ap (λ (z : Float). units_of z * units_of z) (exact x r y h m e) ∙ e)

-- IEEE 754-2019 signals inexact where the rounded result is not the one of unbounded range and precision. Let that root be a / b units, for whole a and
-- b: the flag is true exactly if it is r. A root that is no such quotient differs from r, and by `exact_flag` the flag is then false.
pub no_inexact : (x r : Float) → RootOf x r → (a b : ℕ) → a * a ≡ units_of x * 2 ^ 1074 * (b * b) → 0 < b
    → (exact_root x ≡ true → a ≡ units_of r * b) × (a ≡ units_of r * b → exact_root x ≡ true)
no_inexact x r h a b e p = (
  λ t. square_unique a (units_of r * b) (e ∙ ap (λ (n : ℕ). n * (b * b)) (sym ((exact_flag x r h).0 t)) ∙ sym square),
  λ s. (exact_flag x r h).1
      (eq_of_mul-eq-mul_right (b * b) (mul-pos p p) (units_of r * units_of r) (units_of x * 2 ^ 1074) (sym square ∙ ap (λ (n : ℕ). n * n) (sym s) ∙ e)),
)
  where
    square : units_of r * b * (units_of r * b) ≡ units_of r * units_of r * (b * b)
    square = mul-mul-mul_comm (units_of r) b (units_of r) b

-- +infinity is exact; the zeros are by `exact_zero`.
pub exact_infinity : exact_root (inf false) ≡ true
unfolding exact_root
exact_infinity = refl
