-- The values of patterns. Assumes nothing.
use mathlib.Core.Path.{◌≡◌, refl, sym, ap, ◌∙◌, subst}
use mathlib.Core.Bool.{Bool, true, false, cond}
use Prim.Native.Nat.{ℕ, zero, suc, ◌+◌, ◌-◌, ◌*◌, ◌/◌, ◌%◌, ◌^◌, ◌≤◌, ◌<◌}
use native.Mathlib.Nat.{mul_assoc, mul-one}
use native.Mathlib.Omega.{arith}
use borrow.Author.Tests.{ne_eqb, ltb-true, ltb-false}
use lib.Dec.{T, leb, ltb, eqb, eqb→eq, leb→le, not_T}
use lib.Pow.{pow-add}
use lib.Ieee.{Float, nan, inf, binary64, odd, fits, of_fields, of_bits, to_bits}
use lib.Ieee.Bits.{is_false, of_bits-to_bits}
use lib.Ieee.Digits.{odd_val}
use Rattle.float64.specs.Values.{finite, same_bits}
use Rattle.float64.specs.Units.{units_of}
use Rattle.float64.proofs.Units.{units_is}

of_fields_lem : (b x t : ℕ) → b < 2 ^ 63 → b / 2 ^ 52 ≡ x → b % 2 ^ 52 ≡ t → of_bits binary64 b ≡ of_fields binary64 false x t
unfolding of_bits
of_fields_lem b x t h p q =
    ap (λ (a : Bool). of_fields binary64 a (b % 2 ^ 63 / 2 ^ 52) (b % 2 ^ 52))
    (is_false (leb (2 ^ 63) b) (not_T (leb (2 ^ 63) b) (λ u. let e = leb→le (2 ^ 63) b u in omega arith)))
    ∙ ap (λ (a : ℕ). of_fields binary64 false a (b % 2 ^ 52)) (low ∙ p)
    ∙ ap (λ (a : ℕ). of_fields binary64 false x a) q
  where
    low : b % 2 ^ 63 / 2 ^ 52 ≡ b / 2 ^ 52
    low = omega arith

normal_fields : (x t : ℕ) → suc x < 2047 → of_fields binary64 false (suc x) t ≡ odd 53 false (2 ^ 52 + t) x 1074
unfolding of_fields
normal_fields x t h =
    ap (λ (a : Bool). cond a (cond (eqb t 0) (inf false) nan) (odd 53 false (2 ^ 52 + t) x 1074))
    (is_false (eqb (suc x) 2047) (not_T (eqb (suc x) 2047) (λ u. let e = eqb→eq (suc x) 2047 u in omega arith)))

zero_fields : (t : ℕ) → of_fields binary64 false 0 t ≡ odd 53 false t 0 1074
unfolding of_fields
zero_fields t = refl

-- a normal value: 53 digits q, and k zeros behind them
pub normal_pattern : (k q : ℕ) → 2 ^ 52 ≤ q → q < 2 ^ 53 → k < 2046 → of_bits binary64 (k * 2 ^ 52 + q) ≡ odd 53 false q k 1074
normal_pattern k q lo hi h =
    of_fields_lem (k * 2 ^ 52 + q) (suc k) (q - 2 ^ 52) (omega arith) (omega arith) (omega arith)
    ∙ normal_fields k (q - 2 ^ 52) (omega arith)
    ∙ ap (λ (x : ℕ). odd 53 false x k 1074) whole
  where
    whole : 2 ^ 52 + (q - 2 ^ 52) ≡ q
    whole = omega arith

subnormal_pattern : (b : ℕ) → b < 2 ^ 52 → of_bits binary64 b ≡ odd 53 false b 0 1074
subnormal_pattern b h = of_fields_lem b 0 b (omega arith) (omega arith) (omega arith) ∙ zero_fields b

pub odd_units : (q k : ℕ) → units_of (odd 53 false q k 1074) ≡ q * 2 ^ k
odd_units q k = units_is (odd 53 false q k 1074) (q * 2 ^ k) (odd_val 53 false q k 1074)

pub normal_units : (k q : ℕ) → 2 ^ 52 ≤ q → q < 2 ^ 53 → k < 2046 → units_of (of_bits binary64 (k * 2 ^ 52 + q)) ≡ q * 2 ^ k
normal_units k q lo hi h = ap units_of (normal_pattern k q lo hi h) ∙ odd_units q k

pub subnormal_units : (b : ℕ) → b < 2 ^ 52 → units_of (of_bits binary64 b) ≡ b
subnormal_units b h = ap units_of (subnormal_pattern b h) ∙ odd_units b 0 ∙ mul-one b

-- by the fields of a normal pattern
pub field_units : (b : ℕ) → 0 < b / 2 ^ 52 → b < 0x7ff0_0000_0000_0000 → units_of (of_bits binary64 b) * 2 ^ 53 ≡ (b % 2 ^ 52 + 2 ^ 52) * 2 ^ (b / 2 ^ 52 + 52)
field_units b h l =
    let k = b / 2 ^ 52 - 1 in
    let q = b % 2 ^ 52 + 2 ^ 52 in
    ap (λ (x : ℕ). x * 2 ^ 53) (ap (λ (x : ℕ). units_of (of_bits binary64 x)) whole ∙ normal_units k q (omega arith) (omega arith) (omega arith))
    ∙ mul_assoc q (2 ^ k) (2 ^ 53)
    ∙ ap (λ (x : ℕ). q * x) (sym (pow-add 2 k 53) ∙ ap (λ (x : ℕ). 2 ^ x) sum)
  where
    whole : b ≡ (b / 2 ^ 52 - 1) * 2 ^ 52 + (b % 2 ^ 52 + 2 ^ 52)
    whole = omega arith

    sum : b / 2 ^ 52 - 1 + 53 ≡ b / 2 ^ 52 + 52
    sum = omega arith

-- ---- two values with the same bits are one value
pub same_bits_same : (x y : Float) → T (fits binary64 x) → T (fits binary64 y) → same_bits x y ≡ true → x ≡ y
same_bits_same x y h k e =
    sym (of_bits-to_bits binary64 x h) ∙ ap (of_bits binary64) (eqb→eq (to_bits binary64 x) (to_bits binary64 y) (subst T (sym e) tt))
    ∙ of_bits-to_bits binary64 y k

-- ---- which patterns are finite
finite_odd : (d : ℕ) (s : Bool) (q k l : ℕ) → finite (odd d s q k l) ≡ true
unfolding odd finite
finite_odd d s zero k l = refl
finite_odd d s (suc q) k l = refl

finite_fields : (s : Bool) (x t : ℕ) → x < 2047 → finite (of_fields binary64 s x t) ≡ true
unfolding of_fields
finite_fields s zero t h = finite_odd 53 s t 0 1074
finite_fields s (suc x) t h = rw (ne_eqb (suc x) 2047 (λ e. omega arith)) (finite_odd 53 s (2 ^ 52 + t) x 1074)

no_finite_fields : (s : Bool) (t : ℕ) → finite (of_fields binary64 s 2047 t) ≡ false
unfolding of_fields
no_finite_fields s t = go (eqb t 0)
  where
    go : (b : Bool) → finite (cond b (inf s) nan) ≡ false
    go true = unfold finite in refl
    go false = unfold finite in refl

pub finite_pattern : (b : ℕ) → ltb (b % 0x8000_0000_0000_0000) 0x7ff0_0000_0000_0000 ≡ finite (of_bits binary64 b)
unfolding of_bits
finite_pattern b = go (ltb (b % 0x8000_0000_0000_0000) 0x7ff0_0000_0000_0000) refl
  where
    go : (z : Bool) → ltb (b % 0x8000_0000_0000_0000) 0x7ff0_0000_0000_0000 ≡ z
        → z ≡ finite (of_fields binary64 (leb (2 ^ 63) b) (b % 2 ^ 63 / 2 ^ 52) (b % 2 ^ 52))
    go true e =
        let w : b % 0x8000_0000_0000_0000 < 0x7ff0_0000_0000_0000 = ltb-true _ _ e in
        sym (finite_fields (leb (2 ^ 63) b) (b % 2 ^ 63 / 2 ^ 52) (b % 2 ^ 52) (omega arith))
    go false e =
        let w : 0x7ff0_0000_0000_0000 ≤ b % 0x8000_0000_0000_0000 = ltb-false _ _ e in
        let x : b % 2 ^ 63 / 2 ^ 52 ≡ 2047 = omega arith in
        rw x (sym (no_finite_fields (leb (2 ^ 63) b) (b % 2 ^ 52)))
