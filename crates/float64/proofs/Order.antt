-- The order of finite values that are not negative is that of their units. Assumes nothing.
use mathlib.Core.Path.{◌≡◌, sym, subst}
use mathlib.Core.Bool.{Bool, true, false, ◌&&◌, ◌||◌, true≢false}
use Prim.Native.Nat.{ℕ, ◌*◌, ◌^◌, ◌≤◌, ◌<◌}
use native.Mathlib.Nat.{le_of_lt, le_of_eq, le_of_mul-le-mul_right, mul-le-mul_right}
use lib.Dec.{T, ltb, eqb, ltb→lt, eqb→eq}
use lib.Pow.{pow_pos}
use lib.Ieee.{Float, nan, inf, fin, binary64, up, down, odd, le, fits}
use lib.Ieee.Fits.{down_pos, odd-fits}
use lib.Ieee.Exact.{HasValue, odd_sign}
use lib.Ieee.Order.{transfer, le_of_values}
use Rattle.float64.specs.Values.{finite, sign_of}
use Rattle.float64.specs.Units.{units_of}
use Rattle.float64.proofs.Units.{held}

pub cross : (a b : ℕ) → T (ltb a b || (eqb a b && true)) → a ≤ b
cross a b t = go (ltb a b) (eqb a b) (ltb→lt a b) (eqb→eq a b) t
  where
    go : (p q : Bool) → (T p → a < b) → (T q → a ≡ b) → T (p || (q && true)) → a ≤ b
    go true q f g t = le_of_lt (f tt)
    go false true f g t = le_of_eq (g tt)
    go false false f g t = absurd t

shown : (x : Float) (a c : ℕ) → HasValue x false a c → T (finite x) × (sign_of x ≡ false)
unfolding finite
shown nan a c h = absurd h
shown (inf s) a c h = absurd h
shown (fin s m e) a c h = (tt, h.0)

-- x is finite, not negative, and a value of binary64
pub record Magnitude (x : Float) : Type 0 where
  pub is_finite : T (finite x)
  pub unsigned : sign_of x ≡ false
  pub is_held : T (fits binary64 x)

-- the value of q * 2 ^ k units
pub odd_magnitude : (q k : ℕ) → q < 2 ^ 53 → q * 2 ^ k < 2 ^ 2098 → Magnitude (odd 53 false q k 1074)
odd_magnitude q k h l =
    let p = shown (odd 53 false q k 1074) (q * 2 ^ k) (2 ^ 1074) (odd_sign 53 false q k 1074) in
    record { is_finite = p.0; unsigned = p.1; is_held = odd-fits binary64 53 false q k h (le_of_lt h) l }

pub value_of : (x : Float) → Magnitude x → HasValue x false (units_of x) (2 ^ 1074)
value_of x p = subst (λ (s : Bool). HasValue x s (units_of x) (2 ^ 1074)) p.unsigned (held x p.is_finite p.is_held).value

pub le_of_units : (x y : Float) → Magnitude x → Magnitude y → units_of x ≤ units_of y → T (le x y)
le_of_units x y p q h =
    le_of_values x y (units_of x) (2 ^ 1074) (units_of y) (2 ^ 1074) (pow_pos 1074) (pow_pos 1074) (value_of x p) (value_of y q) (mul-le-mul_right (2 ^ 1074) h)

pub units_of_le : (x y : Float) → Magnitude x → Magnitude y → T (le x y) → units_of x ≤ units_of y
unfolding le finite
units_of_le nan y p q h = absurd p.is_finite
units_of_le (inf s) y p q h = absurd p.is_finite
units_of_le (fin true m e) y p q h = absurd (true≢false p.unsigned)
units_of_le (fin false m e) nan p q h = absurd q.is_finite
units_of_le (fin false m e) (inf t) p q h = absurd q.is_finite
units_of_le (fin false m e) (fin true n d) p q h = absurd (true≢false q.unsigned)
units_of_le (fin false m e) (fin false n d) p q h =
    le_of_mul-le-mul_right
    (transfer (units_of (fin false m e)) (units_of (fin false n d)) (2 ^ 1074) (2 ^ 1074) (m * up e) (n * up d) (down e) (down d) (down_pos e) (down_pos d)
    (sym (value_of (fin false m e) p).1) (sym (value_of (fin false n d) q).1)
    (cross (m * up e * down d) (n * up d * down e) h))
    (pow_pos 1074)
