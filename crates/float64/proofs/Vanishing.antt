-- A finite value times a zero is a zero, and so are the sum and the difference of two zeros; of either sign. Assumes nothing.
use Prim.Native.Nat.{ℕ, zero, suc, ◌+◌, ◌-◌, ◌*◌, ◌<◌}
use mathlib.Core.Path.{◌≡◌, refl, sym}
use mathlib.Core.Bool.{Bool, true, false, cond, ◌&&◌, beq, true≢false}
use native.Mathlib.Nat.{mul-pos, zero-mul, zero-lt-suc}
use native.Mathlib.Omega.{arith}
use borrow.Author.Tests.{eqb-true}
use lib.Dec.{eqb, ltb}
use lib.Pow.{pow_pos}
use lib.Ieee.{Float, nan, inf, fin, binary64, unlike, low, emax, prec, up, down, round, sum, neg, add, sub, mul}
use lib.Ieee.Exact.{HasValue, round_exact}
use lib.Ieee.Fits.{up_pos, down_pos}
use Rattle.float64.specs.Values.{finite, is_zero}

abbrev pub Zero : Float → Type 0
Zero x = is_zero x ≡ true

zero_value : (x : Float) (s : Bool) (den : ℕ) → 0 < den → HasValue x s 0 den → Zero x
zero_value nan s den h v = absurd v
zero_value (inf t) s den h v = absurd v
zero_value (fin t zero e) s den h v = refl
zero_value (fin t (suc m) e) s den h v =
    let p : 0 < suc m * up e * den = mul-pos (mul-pos (zero-lt-suc m) (up_pos e)) h in
    let z : suc m * up e * den ≡ 0 * down e = v.1 in
    absurd (omega arith)

round_zero : (s : Bool) (num den : ℕ) → 0 < den → num ≡ 0 → Zero (round binary64 s num den)
round_zero s num den h e =
    rw e
    (zero_value (round binary64 s 0 den) s den h
    (round_exact binary64 s 0 den 0 0 h (pow_pos (prec binary64)) (pow_pos (low binary64 + suc (emax binary64))) (sym (zero-mul den))))

either : (b : Bool) (x y : Float) → Zero x → Zero y → Zero (cond b x y)
either true x y f g = f
either false x y f g = g

sum_zero : (s t : Bool) (a b c : ℕ) → 0 < c → a ≡ 0 → b ≡ 0 → Zero (sum binary64 s a t b c)
unfolding sum
sum_zero s t a b c h e f =
    either (beq s t) (round binary64 s (a + b) c) _ (round_zero s (a + b) c h (omega arith))
    (either (ltb a b) (round binary64 t (b - a) c) (round binary64 (s && ltb b a) (a - b) c)
    (round_zero t (b - a) c h (omega arith)) (round_zero (s && ltb b a) (a - b) c h (omega arith)))

no_digits : (m u v : ℕ) → eqb m 0 ≡ true → m * u * v ≡ 0
no_digits m u v e = rw (eqb-true m 0 e) (omega arith)

no_digits_after : (v n u : ℕ) → eqb n 0 ≡ true → v * (n * u) ≡ 0
no_digits_after v n u e = rw (eqb-true n 0 e) (omega arith)

pub product_zero : (c x : Float) → finite c ≡ true → Zero x → Zero (mul binary64 c x)
unfolding mul finite
product_zero nan x f z = absurd (true≢false (sym f))
product_zero (inf s) x f z = absurd (true≢false (sym f))
product_zero (fin s m e) nan f z = absurd (true≢false (sym z))
product_zero (fin s m e) (inf t) f z = absurd (true≢false (sym z))
product_zero (fin s m e) (fin t n d) f z =
    round_zero (unlike s t) (m * up e * (n * up d)) (down e * down d) (mul-pos (down_pos e) (down_pos d)) (no_digits_after (m * up e) n (up d) z)

pub sum_of_zeros : (x y : Float) → Zero x → Zero y → Zero (add binary64 x y)
unfolding add
sum_of_zeros nan y f z = absurd (true≢false (sym f))
sum_of_zeros (inf s) y f z = absurd (true≢false (sym f))
sum_of_zeros (fin s m e) nan f z = absurd (true≢false (sym z))
sum_of_zeros (fin s m e) (inf t) f z = absurd (true≢false (sym z))
sum_of_zeros (fin s m e) (fin t n d) f z =
    sum_zero s t (m * up e * down d) (n * up d * down e) (down e * down d) (mul-pos (down_pos e) (down_pos d)) (no_digits m (up e) (down d) f)
    (no_digits n (up d) (down e) z)

neg_zero : (x : Float) → Zero x → Zero (neg x)
unfolding neg
neg_zero nan z = z
neg_zero (inf s) z = z
neg_zero (fin s m e) z = z

pub difference_of_zeros : (x y : Float) → Zero x → Zero y → Zero (sub binary64 x y)
unfolding sub
difference_of_zeros x y f z = sum_of_zeros x (neg y) f (neg_zero y z)

-- a zero is finite
pub zero_finite : (x : Float) → Zero x → finite x ≡ true
unfolding finite
zero_finite nan z = z
zero_finite (inf s) z = z
zero_finite (fin s m e) z = refl
