-- Bounds on magnitudes in units of 2 ^ -1074, one law for each operation. No operand has to be a value of binary64. Assumes nothing.
use mathlib.Core.Path.{◌≡◌, refl, sym, ◌∙◌, subst}
use mathlib.Core.Bool.{Bool, true, false, true≢false}
use Prim.Native.Nat.{ℕ, zero, suc, ◌+◌, ◌-◌, ◌*◌, ◌^◌, ◌≤◌, ◌<◌, zero-le}
use native.Mathlib.Nat.{le_refl, le_trans, le_of_eq, lt_of_lt_of_le, mul_comm, mul_assoc, mul_left_comm, mul_right_comm, mul-mul-mul_comm, zero-mul, add-mul}
use native.Mathlib.Nat.{add-le-add, mul-le-mul, mul-le-mul_right, le_of_mul-le-mul_right, mul-pos, zero-lt-suc}
use native.Mathlib.Omega.{arith}
use lib.Dec.{T}
use lib.Pow.{pow_pos}
use lib.Ieee.{Float, nan, inf, fin, binary64, unlike, up, down, round, neg, sum, add, sub, mul, div, le, is_nan}
use lib.Ieee.Fits.{up_pos, down_pos}
use lib.Ieee.Exact.{HasValue}
use lib.Ieee.Order.{round_mono}
use lib.Ieee.Positive.{first_pos, through}
use Rattle.float64.specs.Values.{finite, is_zero, magnitude}
use Rattle.float64.proofs.Grid.{Grid, zero_grid}
use Rattle.float64.proofs.Order.{cross}
use Rattle.float64.proofs.Rounding.{add_is, sub_is, mul_is, div_is, sums_related, rounds_to, round_unsigned}

-- x is finite and of at most P units
abbrev pub AtMost : ℕ → Float → Type 0
AtMost P nan = ⊥
AtMost P (inf s) = ⊥
AtMost P (fin s m e) = m * up e * 2 ^ 1074 ≤ P * down e

-- the sign of x is +, and it is of at least P units or infinite
abbrev pub AtLeast : ℕ → Float → Type 0
AtLeast P nan = ⊥
AtLeast P (inf s) = s ≡ false
AtLeast P (fin s m e) = (s ≡ false) × (P * down e ≤ m * up e * 2 ^ 1074)

-- x is a number
abbrev pub Number : Float → Type 0
Number x = AtLeast 0 (magnitude x)

pub bounded_finite : (P : ℕ) (x : Float) → AtMost P x → finite x ≡ true
unfolding finite
bounded_finite P nan h = absurd h
bounded_finite P (inf s) h = absurd h
bounded_finite P (fin s m e) h = refl

none : (d w : ℕ) → 0 * d ≤ w
none d w = le_trans (le_of_eq (zero-mul d)) zero-le

pub bounded_number : (P : ℕ) (x : Float) → AtMost P x → Number x
bounded_number P nan h = absurd h
bounded_number P (inf s) h = absurd h
bounded_number P (fin s m e) h = (refl, none _ _)

pub is_number : (x : Float) → Number x → is_nan x ≡ false
unfolding is_nan
is_number nan h = absurd h
is_number (inf s) h = refl
is_number (fin s m e) h = refl

-- ---- by a comparison with a value of P units
at_most : (x y : Float) (P : ℕ) → T (le (magnitude x) y) → HasValue y false P (2 ^ 1074) → AtMost P x
unfolding le
at_most nan y P h v = absurd h
at_most (inf s) nan P h v = absurd v
at_most (inf s) (inf t) P h v = absurd v
at_most (inf s) (fin t n d) P h v = absurd h
at_most (fin s m e) nan P h v = absurd v
at_most (fin s m e) (inf t) P h v = absurd v
at_most (fin s m e) (fin true n d) P h v = absurd (true≢false v.0)
at_most (fin s m e) (fin false n d) P h v =
    through (m * up e) (n * up d) P (down e) (down d) (2 ^ 1074) (down_pos d) (cross (m * up e * down d) (n * up d * down e) h) (le_of_eq v.1)

at_least : (x y : Float) (P : ℕ) → T (le y (magnitude x)) → HasValue y false P (2 ^ 1074) → AtLeast P (magnitude x)
unfolding le
at_least x nan P h v = absurd v
at_least x (inf t) P h v = absurd v
at_least x (fin true n d) P h v = absurd (true≢false v.0)
at_least nan (fin false n d) P h v = absurd h
at_least (inf s) (fin false n d) P h v = refl
at_least (fin s m e) (fin false n d) P h v =
    (refl, through P (n * up d) (m * up e) (2 ^ 1074) (down d) (down e) (down_pos d) (le_of_eq (sym v.1)) (cross (n * up d * down e) (m * up e * down d) h))

-- ---- rounding passes no value of the grid
module _ (s : Bool) (a c P : ℕ) (C : 0 < c) (g : Grid P) (below : P < 2 ^ 2098) where
  abbrev limit : Float
  limit = round binary64 false P (2 ^ 1074)

  of_limit : HasValue limit false P (2 ^ 1074)
  of_limit = rounds_to false P (2 ^ 1074) P (pow_pos 1074) g below refl

  pub round_at_most : a * 2 ^ 1074 ≤ P * c → AtMost P (round binary64 s a c)
  round_at_most h = at_most (round binary64 s a c) limit P (rw (round_unsigned s a c) (round_mono binary64 a c P (2 ^ 1074) C (pow_pos 1074) h)) of_limit

  pub round_at_least : P * c ≤ a * 2 ^ 1074 → AtLeast P (magnitude (round binary64 s a c))
  round_at_least h = at_least (round binary64 s a c) limit P (rw (round_unsigned s a c) (round_mono binary64 P (2 ^ 1074) a c (pow_pos 1074) C h)) of_limit

round_plus : (a c P : ℕ) → 0 < c → Grid P → P < 2 ^ 2098 → P * c ≤ a * 2 ^ 1074 → AtLeast P (round binary64 false a c)
round_plus a c P C g below h = subst (AtLeast P) (round_unsigned false a c) (round_at_least false a c P C g below h)

round_number : (s : Bool) (a c : ℕ) → 0 < c → Number (round binary64 s a c)
round_number s a c C = round_at_least s a c 0 C zero_grid (pow_pos 2098) (none c (a * 2 ^ 1074))

-- ---- sums and differences
-- whatever its signs, a sum rounds a w of at most a + b
sum_rounds : (C : Float → Type 0) (s t : Bool) (a b c : ℕ) → ((r : Bool) (w : ℕ) → w ≤ a + b → C (round binary64 r w c)) → C (sum binary64 s a t b c)
sum_rounds C s t a b c f =
    sums_related (λ (x y : Float). C x) s t a b c a b c refl refl (λ r. f r (a + b) (le_refl (a + b))) (λ r. f r (b - a) (omega arith))
    (λ r. f r (a - b) (omega arith))

-- x / c and P / l over the denominator c * d
below_over : (x c d P l : ℕ) → x * l ≤ P * c → x * d * l ≤ P * (c * d)
below_over x c d P l h = le_trans (le_of_eq (mul_right_comm x d l)) (le_trans (mul-le-mul_right d h) (le_of_eq (mul_assoc P c d)))

above_over : (x c d P l : ℕ) → P * c ≤ x * l → P * (c * d) ≤ x * d * l
above_over x c d P l h = le_trans (le_of_eq (sym (mul_assoc P c d))) (le_trans (mul-le-mul_right d h) (le_of_eq (mul_right_comm x l d)))

sum_below : (x y c d P Q l : ℕ) → x * l ≤ P * c → y * l ≤ Q * d → (x * d + y * c) * l ≤ (P + Q) * (c * d)
sum_below x y c d P Q l h k =
    let q : y * c * l ≤ Q * (c * d) = rw (mul_comm c d) (below_over y d c Q l k) in
    le_trans (le_of_eq (add-mul (x * d) (y * c) l)) (le_trans (add-le-add (below_over x c d P l h) q) (le_of_eq (sym (add-mul P Q (c * d)))))

sum_above : (x y c d P Q l : ℕ) → P * c ≤ x * l → Q * d ≤ y * l → (P + Q) * (c * d) ≤ (x * d + y * c) * l
sum_above x y c d P Q l h k =
    let q : Q * (c * d) ≤ y * c * l = rw (mul_comm c d) (above_over y d c Q l k) in
    le_trans (le_of_eq (add-mul P Q (c * d))) (le_trans (add-le-add (above_over x c d P l h) q) (le_of_eq (sym (add-mul (x * d) (y * c) l))))

module _ (P Q : ℕ) (g : Grid (P + Q)) (below : P + Q < 2 ^ 2098) where
  pub add_at_most : (x y : Float) → AtMost P x → AtMost Q y → AtMost (P + Q) (add binary64 x y)
  add_at_most nan y h k = absurd h
  add_at_most (inf s) y h k = absurd h
  add_at_most (fin s m e) nan h k = absurd k
  add_at_most (fin s m e) (inf t) h k = absurd k
  add_at_most (fin s m e) (fin t n d) h k =
      subst (AtMost (P + Q)) (sym (add_is s m e t n d))
      (sum_rounds (AtMost (P + Q)) s t (m * up e * down d) (n * up d * down e) (down e * down d) (λ r w l.
      round_at_most r w (down e * down d) (P + Q) (mul-pos (down_pos e) (down_pos d)) g below
      (le_trans (mul-le-mul_right (2 ^ 1074) l) (sum_below (m * up e) (n * up d) (down e) (down d) P Q (2 ^ 1074) h k))))

  negated : (y : Float) → AtMost Q y → AtMost Q (neg y)
  unfolding neg
  negated nan h = h
  negated (inf s) h = h
  negated (fin s m e) h = h

  pub sub_at_most : (x y : Float) → AtMost P x → AtMost Q y → AtMost (P + Q) (sub binary64 x y)
  sub_at_most x y h k = subst (AtMost (P + Q)) (sym (sub_is x y)) (add_at_most x (neg y) h (negated y k))

  plus : (a b c : ℕ) → sum binary64 false a false b c ≡ round binary64 false (a + b) c
  unfolding sum
  plus a b c = refl

  pub add_at_least : (x y : Float) → AtLeast P x → AtLeast Q y → AtLeast (P + Q) (add binary64 x y)
  unfolding add
  add_at_least nan y h k = absurd h
  add_at_least (inf true) y h k = absurd (true≢false h)
  add_at_least (inf false) nan h k = absurd k
  add_at_least (inf false) (inf true) h k = absurd (true≢false k)
  add_at_least (inf false) (inf false) h k = refl
  add_at_least (inf false) (fin t n d) h k = refl
  add_at_least (fin s m e) nan h k = absurd k
  add_at_least (fin s m e) (inf t) h k = k
  add_at_least (fin true m e) (fin t n d) h k = absurd (true≢false h.0)
  add_at_least (fin false m e) (fin true n d) h k = absurd (true≢false k.0)
  add_at_least (fin false m e) (fin false n d) h k =
      subst (AtLeast (P + Q)) (sym (plus (m * up e * down d) (n * up d * down e) (down e * down d)))
      (round_plus (m * up e * down d + n * up d * down e) (down e * down d) (P + Q) (mul-pos (down_pos e) (down_pos d)) g below
      (sum_above (m * up e) (n * up d) (down e) (down d) P Q (2 ^ 1074) h.1 k.1))

-- ---- products and quotients of at most R units
module _ (P Q R : ℕ) (g : Grid R) (below : R < 2 ^ 2098) where
  pub mul_at_most : (x y : Float) → P * Q ≤ R * 2 ^ 1074 → AtMost P x → AtMost Q y → AtMost R (mul binary64 x y)
  mul_at_most nan y r h k = absurd h
  mul_at_most (inf s) y r h k = absurd h
  mul_at_most (fin s m e) nan r h k = absurd k
  mul_at_most (fin s m e) (inf t) r h k = absurd k
  mul_at_most (fin s m e) (fin t n d) r h k =
      subst (AtMost R) (sym (mul_is s m e t n d))
      (round_at_most (unlike s t) (m * up e * (n * up d)) (down e * down d) R (mul-pos (down_pos e) (down_pos d)) g below
      (product_below (m * up e) (n * up d) (down e) (down d) (2 ^ 1074) (pow_pos 1074) r h k))
    where
      product_below : (x y c d l : ℕ) → 0 < l → P * Q ≤ R * l → x * l ≤ P * c → y * l ≤ Q * d → x * y * l ≤ R * (c * d)
      product_below x y c d l L r h k =
          le_of_mul-le-mul_right
          (le_trans (le_of_eq (mul_assoc (x * y) l l ∙ mul-mul-mul_comm x y l l))
          (le_trans (mul-le-mul h k)
          (le_trans (le_of_eq (mul-mul-mul_comm P c Q d)) (le_trans (mul-le-mul_right (c * d) r) (le_of_eq (mul_right_comm R l (c * d)))))))
          L

  -- by a value that is not negative
  pub div_at_most : (x y : Float) → 0 < Q → P * 2 ^ 1074 ≤ R * Q → AtMost P x → AtLeast Q y → AtMost R (div binary64 x y)
  div_at_most nan y above r h k = absurd h
  div_at_most (inf s) y above r h k = absurd h
  div_at_most (fin s m e) nan above r h k = absurd k
  div_at_most (fin s m e) (inf t) above r h k = unfold div in zero-le
  div_at_most (fin s m e) (fin t n d) above r h k =
      let n_above : 0 < n = first_pos n (up d) (first_pos (n * up d) (2 ^ 1074) (lt_of_lt_of_le (mul-pos above (down_pos d)) k.1)) in
      subst (AtMost R) (sym (div_is s m e t n d n_above))
      (round_at_most (unlike s t) (m * up e * down d) (n * up d * down e) R (mul-pos (mul-pos n_above (up_pos d)) (down_pos e)) g below
      (quotient_below (m * up e) (n * up d) (down e) (down d) (2 ^ 1074) r h k.1))
    where
      quotient_below : (x y c d l : ℕ) → P * l ≤ R * Q → x * l ≤ P * c → Q * d ≤ y * l → x * d * l ≤ R * (y * c)
      quotient_below x y c d l r h k =
          le_of_mul-le-mul_right
          (le_trans (le_of_eq first) (le_trans (mul-le-mul h k) (le_trans (le_of_eq second) (le_trans (mul-le-mul_right (y * c) r) (le_of_eq third)))))
          above
        where
          first : x * d * l * Q ≡ x * l * (Q * d)
          first = simp (mul_assoc, mul_comm, mul_left_comm)

          second : P * c * (y * l) ≡ P * l * (y * c)
          second = simp (mul_assoc, mul_comm, mul_left_comm)

          third : R * Q * (y * c) ≡ R * (y * c) * Q
          third = mul_right_comm R Q (y * c)

-- ---- numbers
unlike_itself : (s : Bool) → unlike s s ≡ false
unlike_itself true = refl
unlike_itself false = refl

pub square_at_least : (x : Float) → Number x → AtLeast 0 (mul binary64 x x)
unfolding mul
square_at_least nan h = absurd h
square_at_least (inf s) h = unlike_itself s
square_at_least (fin s m e) h =
    subst (λ (t : Bool). AtLeast 0 (round binary64 t (m * up e * (m * up e)) (down e * down e))) (sym (unlike_itself s))
    (round_plus (m * up e * (m * up e)) (down e * down e) 0 (mul-pos (down_pos e) (down_pos e)) zero_grid (pow_pos 2098) (none _ _))

-- a finite value by a finite one that is not a zero
pub div_number : (x y : Float) → finite x ≡ true → finite y ≡ true → is_zero y ≡ false → Number (div binary64 x y)
unfolding finite
div_number nan y f k z = absurd (true≢false (sym f))
div_number (inf s) y f k z = absurd (true≢false (sym f))
div_number (fin s m e) nan f k z = absurd (true≢false (sym k))
div_number (fin s m e) (inf t) f k z = absurd (true≢false (sym k))
div_number (fin s m e) (fin t zero d) f k z = absurd (true≢false z)
div_number (fin s m e) (fin t (suc n) d) f k z =
    subst Number (sym (div_is s m e t (suc n) d (zero-lt-suc n)))
    (round_number (unlike s t) (m * up e * down d) (suc n * up d * down e) (mul-pos (mul-pos (zero-lt-suc n) (up_pos d)) (down_pos e)))
