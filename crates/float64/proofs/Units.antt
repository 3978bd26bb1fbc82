-- A finite value that binary64 holds is just its sign and its whole number of units. Assumes nothing.
use mathlib.Core.Path.{◌≡◌, refl, sym, ap, ◌∙◌, subst}
use mathlib.Core.Bool.{Bool, true, false, ◌&&◌, cond}
use Prim.Native.Nat.{ℕ, zero, suc, ◌+◌, ◌-◌, ◌*◌, ◌/◌, ◌%◌, ◌^◌, ◌≤◌, ◌<◌}
use native.Mathlib.Nat.{zero-add, add_assoc, mul_assoc, mul-one, one-mul, mul_right_comm}
use native.Mathlib.Nat.{mul-pos, mul-div_cancel, mul-lt-mul_of_pos_right, lt_of_mul-lt-mul_right, zero-mul}
use native.Mathlib.Omega.{arith}
use lib.Dec.{T, leb, ltb, eqb, ltb→lt, leb→le}
use lib.IntN.{ℤ, pos, negsuc}
use lib.Pow.{pow-add, pow_pos}
use lib.Ieee.{Float, nan, inf, fin, binary64, up, down, size, fits, of_bits, to_bits}
use lib.Ieee.Digits.{Equals, size-le}
use lib.Ieee.Fits.{and_l, and_r, up_pos, down_pos, kept-lt}
use lib.Ieee.Bits.{of_bits-to_bits}
use lib.Ieee.Exact.{HasValue}
use lib.Ieee.Positive.{positive, first_pos}
use Rattle.float64.specs.Values.{finite, sign_of}
use Rattle.float64.specs.Units.{units_of}
use Rattle.float64.proofs.Grid.{Grid, zero_grid, power_split, power_le_back}

pub units_is : (x : Float) (n : ℕ) → Equals x n (2 ^ 1074) → units_of x ≡ n
units_is nan n h = absurd h
units_is (inf s) n h = absurd h
units_is (fin s m e) n h = ap (λ (x : ℕ). x / down e) h ∙ mul-div_cancel n (down_pos e)

zero_value : (e : ℤ) → 0 * up e * 2 ^ 1074 ≡ 0 * down e
zero_value e = ap (λ (x : ℕ). x * 2 ^ 1074) (zero-mul (up e)) ∙ zero-mul (2 ^ 1074) ∙ sym (zero-mul (down e))

pub zero_units : (s : Bool) (e : ℤ) → units_of (fin s 0 e) ≡ 0
zero_units s e = units_is (fin s 0 e) 0 (zero_value e)

-- ---- what `fits` says of a value
record Fitted (m : ℕ) (e : ℤ) : Type 0 where
  digits : suc m < 2 ^ 53
  lowest : down e ≤ 2 ^ 1074
  highest : suc m * up e < 2 ^ 1024 * down e

fitted : (s : Bool) (m : ℕ) (e : ℤ) → T (fits binary64 (fin s (suc m) e)) → Fitted m e
unfolding fits
fitted s m e t =
    let a = eqb (suc m % 2) 1 in
    let b = ltb (suc m) (2 ^ 53) in
    let c = leb (down e) (2 ^ 1074) in
    let d = ltb (suc m * up e) (2 ^ 1024 * down e) in
    record {
      digits = ltb→lt (suc m) (2 ^ 53) (and_r a b (and_l (a && b) c (and_l (a && b && c) d t)));
      lowest = leb→le (down e) (2 ^ 1074) (and_r (a && b) c (and_l (a && b && c) d t));
      highest = ltb→lt (suc m * up e) (2 ^ 1024 * down e) (and_r (a && b && c) d t);
    }

-- 2 ^ e is 2 ^ j units
power_units : (e : ℤ) → down e ≤ 2 ^ 1074 → (j : ℕ) × (up e * 2 ^ 1074 ≡ 2 ^ j * down e)
power_units (pos k) h = (k + 1074, sym (pow-add 2 k 1074) ∙ sym (mul-one (2 ^ (k + 1074))))
power_units (negsuc k) h = (1074 - suc k, one-mul (2 ^ 1074) ∙ power_split 1074 (suc k) (power_le_back (suc k) 1074 h))

pub record Held (x : Float) : Type 0 where
  pub grid : Grid (units_of x)
  pub value : HasValue x (sign_of x) (units_of x) (2 ^ 1074)
  pub below : units_of x < 2 ^ 2098

pub held : (x : Float) → T (finite x) → T (fits binary64 x) → Held x
unfolding finite
held nan f t = absurd f
held (inf s) f t = absurd f
held (fin s zero e) f t =
    let u : 0 ≡ units_of (fin s zero e) = sym (zero_units s e) in
    record {
      grid = subst Grid u zero_grid;
      value = (refl, zero_value e ∙ ap (λ (x : ℕ). x * down e) u);
      below = subst (λ (x : ℕ). x < 2 ^ 2098) u (pow_pos 2098);
    }
held (fin s (suc m) e) f t =
    let p = fitted s m e t in
    let q = power_units e p.lowest in
    let n = suc m * 2 ^ q.0 in
    let v : suc m * up e * 2 ^ 1074 ≡ n * down e =
    mul_assoc (suc m) (up e) (2 ^ 1074) ∙ ap (λ (x : ℕ). suc m * x) q.1 ∙ sym (mul_assoc (suc m) (2 ^ q.0) (down e)) in
    let u : n ≡ units_of (fin s (suc m) e) = sym (units_is (fin s (suc m) e) n v) in
    let l : suc m * up e * 2 ^ 1074 < 2 ^ 1024 * down e * 2 ^ 1074 = mul-lt-mul_of_pos_right p.highest (pow_pos 1074) in
    let b : n < 2 ^ 2098 =
    lt_of_mul-lt-mul_right (down e)
    (subst (λ (x : ℕ). n * down e < x) (mul_right_comm (2 ^ 1024) (down e) (2 ^ 1074)) (subst (λ (x : ℕ). x < 2 ^ 1024 * down e * 2 ^ 1074) v l)) in
    record {
      grid = subst Grid u (record { digits = suc m; shift = q.0; is = refl; small = p.digits });
      value = (refl, v ∙ ap (λ (x : ℕ). x * down e) u);
      below = subst (λ (x : ℕ). x < 2 ^ 2098) u b;
    }

-- ---- by sign and units
-- the pattern without its sign bit
abbrev pub pattern_of : ℕ → ℕ
pattern_of n = let k = size n - 53 in k * 2 ^ 52 + n / 2 ^ k

pub bits_by_units : (x : Float) → T (finite x) → to_bits binary64 x ≡ cond (sign_of x) (2 ^ 63) 0 + pattern_of (units_of x)
unfolding to_bits finite
bits_by_units nan f = absurd f
bits_by_units (inf s) f = absurd f
bits_by_units (fin true m e) f = add_assoc _ _ _
bits_by_units (fin false m e) f = add_assoc _ _ _

pub same_units : (x y : Float) → T (finite x) → T (finite y) → T (fits binary64 x) → T (fits binary64 y)
    → sign_of x ≡ sign_of y → units_of x ≡ units_of y → x ≡ y
same_units x y f g h k s u =
    sym (of_bits-to_bits binary64 x h)
    ∙ ap (of_bits binary64)
    (bits_by_units x f ∙ ap (λ (b : Bool). cond b (2 ^ 63) 0 + pattern_of (units_of x)) s
    ∙ ap (λ (n : ℕ). cond (sign_of y) (2 ^ 63) 0 + pattern_of n) u ∙ sym (bits_by_units y g))
    ∙ of_bits-to_bits binary64 y k

-- ---- finite and above zero
pub units_above : (x : Float) → T (positive x) → T (fits binary64 x) → 0 < units_of x
unfolding finite
units_above nan p t = absurd p
units_above (inf s) p t = absurd p
units_above (fin true m e) p t = absurd p
units_above (fin false m e) p t =
    first_pos (units_of (fin false m e)) (down e)
    (subst (λ (x : ℕ). 0 < x) (held (fin false m e) tt t).value.1 (mul-pos (mul-pos (ltb→lt 0 m p) (up_pos e)) (pow_pos 1074)))

pattern_above : (n : ℕ) → 0 < n → 0 < pattern_of n
pattern_above n h = go (size n - 53)
  where
    go : (k : ℕ) → 0 < k * 2 ^ 52 + n / 2 ^ k
    go zero = omega arith
    go (suc k) = omega arith

pattern_below : (n : ℕ) → n < 2 ^ 2098 → pattern_of n < 0x7ff0_0000_0000_0000
pattern_below n h = let a = size-le n 2098 h in let b = kept-lt 53 n in omega arith

pub positive_pattern : (x : Float) → T (positive x) → T (fits binary64 x) → (0 < to_bits binary64 x) × (to_bits binary64 x < 0x7ff0_0000_0000_0000)
unfolding finite
positive_pattern nan p t = absurd p
positive_pattern (inf s) p t = absurd p
positive_pattern (fin true m e) p t = absurd p
positive_pattern (fin false m e) p t =
    let x = fin false m e in
    subst (λ (b : ℕ). (0 < b) × (b < 0x7ff0_0000_0000_0000)) (sym (bits_by_units x tt ∙ zero-add _))
    (pattern_above (units_of x) (units_above x p t), pattern_below (units_of x) (held x tt t).below)
