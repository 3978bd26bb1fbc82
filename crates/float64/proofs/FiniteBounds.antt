-- Bounds that a finite value gives: its own, that of a factor of a finite square, and from below that of a quotient by it. Assumes nothing.
use mathlib.Core.Path.{◌≡◌, refl, sym, ap, ◌∙◌, subst}
use mathlib.Core.Bool.{true, false, true≢false}
use Prim.Native.Nat.{ℕ, zero, suc, ◌*◌, ◌^◌, ◌≤◌, ◌<◌}
use native.Mathlib.Nat.{le_refl, le_trans, le_of_eq, le_of_lt, lt_of_lt_of_le, lt_irrefl, lt_of_not-le, mul-pos, zero-lt-suc, zero-mul, mul_comm}
use native.Mathlib.Nat.{mul_assoc, mul_left_comm, mul_right_comm, mul-mul-mul_comm, mul-le-mul, mul-le-mul_right, le_of_mul-le-mul_right}
use native.Mathlib.Decide.{dec_le}
use lib.Dec.{T, eqb-suc-zero}
use lib.Pow.{pow_pos}
use lib.Ieee.{Float, nan, inf, fin, binary64, unlike, up, down, fits, mul, div}
use lib.Ieee.Fits.{up_pos, down_pos}
use Rattle.float64.specs.Values.{finite, is_zero, magnitude}
use Rattle.float64.proofs.Grid.{Grid}
use Rattle.float64.proofs.Units.{held}
use Rattle.float64.proofs.Operands.{product_operands}
use Rattle.float64.proofs.Rounding.{mul_is, div_is, too_large}
use Rattle.float64.proofs.Bounds.{AtMost, AtLeast, round_at_least}

-- ---- from one bound to another
pub magnitude_at_most : (P : ℕ) (x : Float) → AtMost P x → AtMost P (magnitude x)
magnitude_at_most P nan h = h
magnitude_at_most P (inf s) h = h
magnitude_at_most P (fin s m e) h = h

pub at_least_less : (P Q : ℕ) → P ≤ Q → (x : Float) → AtLeast Q x → AtLeast P x
at_least_less P Q l nan h = h
at_least_less P Q l (inf s) h = h
at_least_less P Q l (fin s m e) h = (h.0, le_trans (mul-le-mul_right (down e) l) h.1)

pub at_least_not_zero : (P : ℕ) → 0 < P → (x : Float) → AtLeast P (magnitude x) → is_zero x ≡ false
at_least_not_zero P above nan h = refl
at_least_not_zero P above (inf s) h = refl
at_least_not_zero P above (fin s zero e) h =
    let none : 0 * up e * 2 ^ 1074 ≡ 0 = rw (zero-mul (up e)) (zero-mul (2 ^ 1074)) in
    absurd (lt_irrefl 0 (lt_of_lt_of_le (mul-pos above (down_pos e)) (le_trans h.1 (le_of_eq none))))
at_least_not_zero P above (fin s (suc m) e) h = eqb-suc-zero m

-- ---- a finite value of binary64
pub finite_at_most : (x : Float) → finite x ≡ true → T (fits binary64 x) → AtMost (2 ^ 2098) x
unfolding finite
finite_at_most nan f t = absurd (true≢false (sym f))
finite_at_most (inf s) f t = absurd (true≢false (sym f))
finite_at_most (fin s m e) f t = let h = held (fin s m e) tt t in le_trans (le_of_eq h.value.1) (mul-le-mul_right (down e) (le_of_lt h.below))

-- ---- a finite square is that of a value of at most 2 ^ 512
pub square_operand : (x : Float) → finite (mul binary64 x x) ≡ true → AtMost (2 ^ 1586) x
unfolding finite
square_operand nan f = absurd (true≢false (sym (product_operands nan nan f).0))
square_operand (inf s) f = absurd (true≢false (sym (product_operands (inf s) (inf s) f).0))
square_operand (fin s m e) f = go (dec_le (m * up e) (2 ^ 512 * down e))
  where
    go : Dec (m * up e ≤ 2 ^ 512 * down e) → AtMost (2 ^ 1586) (fin s m e)
    go (yes h) = le_trans (mul-le-mul_right (2 ^ 1074) h) (le_of_eq (mul_right_comm (2 ^ 512) (down e) (2 ^ 1074)))
    go (no g) =
        let l : 2 ^ 512 * down e ≤ m * up e = le_of_lt (lt_of_not-le g) in
        absurd
        (too_large (unlike s s) (m * up e * (m * up e)) (down e * down e) (mul-pos (down_pos e) (down_pos e))
        (le_trans (le_of_eq (sym (mul-mul-mul_comm (2 ^ 512) (down e) (2 ^ 512) (down e)))) (mul-le-mul l l)) (sym (ap finite (mul_is s m e s m e)) ∙ f))

-- ---- a quotient by a finite value is of at least R units
module _ (P Q R : ℕ) (g : Grid R) (below : R < 2 ^ 2098) where
  pub div_at_least : (x y : Float) → 0 < P → R * Q ≤ P * 2 ^ 1074 → AtLeast P (magnitude x) → AtMost Q y → AtLeast R (magnitude (div binary64 x y))
  div_at_least nan y above r h k = absurd h
  div_at_least (inf s) nan above r h k = absurd k
  div_at_least (inf s) (inf t) above r h k = absurd k
  div_at_least (inf s) (fin t n d) above r h k = unfold div in refl
  div_at_least (fin s m e) nan above r h k = absurd k
  div_at_least (fin s m e) (inf t) above r h k = absurd k
  div_at_least (fin s m e) (fin t zero d) above r h k = unfold div in rw (at_least_not_zero P above (fin s m e) h) refl
  div_at_least (fin s m e) (fin t (suc n) d) above r h k =
      subst (λ (z : Float). AtLeast R (magnitude z)) (sym (div_is s m e t (suc n) d (zero-lt-suc n)))
      (round_at_least (unlike s t) (m * up e * down d) (suc n * up d * down e) R (mul-pos (mul-pos (zero-lt-suc n) (up_pos d)) (down_pos e)) g below
      (quotient_above (m * up e) (suc n * up d) (down e) (down d) (2 ^ 1074) (pow_pos 1074) r h.1 k))
    where
      quotient_above : (x y c d l : ℕ) → 0 < l → R * Q ≤ P * l → P * c ≤ x * l → y * l ≤ Q * d → R * (y * c) ≤ x * d * l
      quotient_above x y c d l L r h k =
          le_of_mul-le-mul_right
          (le_trans (le_of_eq first)
          (le_trans (mul-le-mul (le_refl R) (mul-le-mul h k)) (le_trans (le_of_eq second) (le_trans (mul-le-mul_right (x * l * d) r) (le_of_eq third)))))
          (mul-pos above L)
        where
          first : R * (y * c) * (P * l) ≡ R * (P * c * (y * l))
          first = simp (mul_assoc, mul_left_comm)

          second : R * (x * l * (Q * d)) ≡ R * Q * (x * l * d)
          second = simp (mul_assoc, mul_left_comm)

          third : P * l * (x * l * d) ≡ x * d * l * (P * l)
          third = simp (mul_assoc, mul_comm, mul_left_comm)
