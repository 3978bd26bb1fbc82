-- Comparisons with zero. Assumes nothing.
use mathlib.Core.Path.{◌≡◌, refl, sym, ap, ◌∙◌}
use mathlib.Core.Bool.{Bool, true, false, ◌&&◌, ◌||◌, beq, true≢false}
use Prim.Native.Nat.{ℕ, zero, suc, ◌+◌, ◌*◌, ◌<◌}
use native.Mathlib.Nat.{mul-pos, zero-lt-suc}
use native.Mathlib.Omega.{arith}
use borrow.Author.Tests.{lt-ltb, le-ltb, eq-eqb, ne_eqb, eqb-true}
use lib.Dec.{eqb}
use lib.IntN.{ℤ}
use lib.Ieee.{Float, nan, inf, fin, up, down, neg, lt, eq, of_bits}
use lib.Ieee.Fits.{up_pos}
use lib.Ieee.Positive.{above}
use Rattle.float64.specs.Values.{plus_zero, is_zero, sign_of}

product_above : (m : ℕ) (e : ℤ) → 0 < suc m * up e * 1
product_above m e = mul-pos (mul-pos (zero-lt-suc m) (up_pos e)) (zero-lt-suc 0)

-- x > 0.0
pub above_zero : (x : Float) → lt plus_zero x ≡ above x
unfolding lt of_bits
above_zero nan = refl
above_zero (inf s) = refl
above_zero (fin true m e) = refl
above_zero (fin false zero e) = le-ltb (0 * 1 * down e) (0 * up e * 1) (omega arith)
above_zero (fin false (suc m) e) =
    let p = product_above m e in lt-ltb (0 * 1 * down e) (suc m * up e * 1) (omega arith) ∙ sym (lt-ltb 0 (suc m) (zero-lt-suc m))

-- x < 0.0
pub below_zero : (x : Float) → lt x plus_zero ≡ above (neg x)
unfolding lt of_bits neg
below_zero nan = refl
below_zero (inf true) = refl
below_zero (inf false) = refl
below_zero (fin true zero e) = le-ltb 0 (0 * up e * 1 + 0 * 1 * down e) (omega arith)
below_zero (fin true (suc m) e) =
    let p = product_above m e in lt-ltb 0 (suc m * up e * 1 + 0 * 1 * down e) (omega arith) ∙ sym (lt-ltb 0 (suc m) (zero-lt-suc m))
below_zero (fin false m e) = le-ltb (m * up e * 1) (0 * 1 * down e) (omega arith)

-- x == 0.0
pub equal_zero : (x : Float) → eq x plus_zero ≡ is_zero x
unfolding eq of_bits
equal_zero nan = refl
equal_zero (inf s) = refl
equal_zero (fin s zero e) =
    both (eqb (0 * up e * 1) (0 * 1 * down e)) (eqb (0 * up e * 1) 0) (beq s false)
    (eq-eqb (0 * up e * 1) (0 * 1 * down e) (omega arith)) (eq-eqb (0 * up e * 1) 0 (omega arith))
  where
    both : (p q s : Bool) → p ≡ true → q ≡ true → p && (s || q) ≡ true
    both p q true e f = ap (λ (b : Bool). b && true) e
    both p q false e f = ap (λ (b : Bool). b && q) e ∙ f
equal_zero (fin s (suc m) e) =
    let p = product_above m e in
    ap (λ (b : Bool). b && (beq s false || eqb (suc m * up e * 1) 0)) (ne_eqb (suc m * up e * 1) (0 * 1 * down e) (λ h. omega arith))
    ∙ sym (ne_eqb (suc m) 0 (λ h. omega arith))

-- ---- what is not below zero: a value without a sign, one above zero, and a zero of either sign
unsigned : (x : Float) → sign_of x ≡ false → above (neg x) ≡ false
unfolding neg
unsigned nan h = refl
unsigned (inf true) h = absurd (true≢false h)
unsigned (inf false) h = refl
unsigned (fin true m e) h = absurd (true≢false h)
unsigned (fin false m e) h = refl

pub unsigned_not_below : (x : Float) → sign_of x ≡ false → lt x plus_zero ≡ false
unsigned_not_below x h = below_zero x ∙ unsigned x h

above_unsigned : (x : Float) → above x ≡ true → sign_of x ≡ false
above_unsigned nan h = refl
above_unsigned (inf true) h = sym h
above_unsigned (inf false) h = refl
above_unsigned (fin true m e) h = sym h
above_unsigned (fin false m e) h = refl

pub above_not_below : (x : Float) → lt plus_zero x ≡ true → lt x plus_zero ≡ false
above_not_below x h = unsigned_not_below x (above_unsigned x (sym (above_zero x) ∙ h))

zero_not_above : (x : Float) → is_zero x ≡ true → above (neg x) ≡ false
unfolding neg
zero_not_above nan h = refl
zero_not_above (inf s) h = absurd (true≢false (sym h))
zero_not_above (fin true m e) h = let w : m ≡ 0 = eqb-true m 0 h in le-ltb 0 m (omega arith)
zero_not_above (fin false m e) h = refl

pub zero_not_below : (x : Float) → is_zero x ≡ true → lt x plus_zero ≡ false
zero_not_below x h = below_zero x ∙ zero_not_above x h
