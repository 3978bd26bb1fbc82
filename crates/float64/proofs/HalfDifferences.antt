-- The difference of the halves of two finite values is finite, at both ends of the range. Assumes nothing.
use mathlib.Core.Path.{◌≡◌, refl, sym, ap, ◌∙◌}
use mathlib.Core.Bool.{true, true≢false}
use Prim.Native.Nat.{ℕ, ◌+◌, ◌-◌, ◌*◌, ◌^◌, ◌≤◌, ◌<◌}
use native.Mathlib.Nat.{le_trans, le_of_eq, le_of_lt, lt_of_not-le, mul_assoc, mul-le-mul, mul-le-mul_right, lt_of_mul-lt-mul_right}
use native.Mathlib.Decide.{dec_le}
use native.Mathlib.Omega.{arith}
use lib.Dec.{T, lit<, lit≤}
use lib.Pow.{pow_mono}
use lib.Ieee.{Float, nan, inf, fin, binary64, down, sub, div, fits, of_bits}
use Rattle.float64.specs.Values.{two, finite}
use Rattle.float64.specs.Units.{units_of}
use Rattle.float64.proofs.Grid.{Grid, power_split}
use Rattle.float64.proofs.Units.{held}
use Rattle.float64.proofs.Bounds.{AtMost, AtLeast, bounded_finite, sub_at_most, div_at_most}

-- half the largest finite value, in units
abbrev half : ℕ
half = (2 ^ 53 - 1) * 2 ^ 2044

half_grid : Grid half
half_grid = record { digits = 2 ^ 53 - 1; shift = 2044; is = refl; small = lit< tt }

largest_grid : Grid (half + half)
largest_grid = record { digits = 2 ^ 53 - 1; shift = 2045; is = refl; small = lit< tt }

-- below 2 ^ 2098 the grid ends with the largest finite value
top : (n : ℕ) → Grid n → n < 2 ^ 2098 → n ≤ half * 2
top n g below = go (dec_le 2045 g.shift)
  where
    last : (m : ℕ) → m < 2 ^ 53 → m ≤ 2 ^ 53 - 1
    last m h = omega arith

    go : Dec (2045 ≤ g.shift) → n ≤ half * 2
    go (yes h) =
        let m = g.digits * 2 ^ (g.shift - 2045) in
        let e : n ≡ m * 2 ^ 2045 =
        g.is ∙ ap (λ (x : ℕ). g.digits * x) (power_split g.shift 2045 h) ∙ sym (mul_assoc g.digits (2 ^ (g.shift - 2045)) (2 ^ 2045)) in
        let l : m * 2 ^ 2045 < 2 ^ 53 * 2 ^ 2045 = rw (sym e) below in
        le_trans (le_of_eq e) (mul-le-mul_right (2 ^ 2045) (last m (lt_of_mul-lt-mul_right (2 ^ 2045) l)))
    go (no h) = le_trans (le_of_eq g.is) (mul-le-mul (last g.digits g.small) (pow_mono (le_of_lt (lt_of_not-le h))))

at_most_largest : (x : Float) → finite x ≡ true → T (fits binary64 x) → AtMost (half * 2) x
unfolding finite
at_most_largest nan f t = absurd (true≢false (sym f))
at_most_largest (inf s) f t = absurd (true≢false (sym f))
at_most_largest (fin s m e) f t =
    let p = held (fin s m e) tt t in le_trans (le_of_eq p.value.1) (mul-le-mul_right (down e) (top (units_of (fin s m e)) p.grid p.below))

two_at_least : AtLeast (2 ^ 1075) two
unfolding of_bits
two_at_least = (refl, lit≤ tt)

halved_at_most : (x : Float) → finite x ≡ true → T (fits binary64 x) → AtMost half (div binary64 x two)
halved_at_most x f t =
    div_at_most (half * 2) (2 ^ 1075) half half_grid (lit< tt) x two (lit< tt) (le_of_eq (mul_assoc half 2 (2 ^ 1074))) (at_most_largest x f t) two_at_least

pub half_difference : (x y : Float) → finite x ≡ true → finite y ≡ true → T (fits binary64 x) → T (fits binary64 y)
    → finite (sub binary64 (div binary64 x two) (div binary64 y two)) ≡ true
half_difference x y f g t u =
    bounded_finite (half + half) _
    (sub_at_most half half largest_grid (lit< tt) (div binary64 x two) (div binary64 y two) (halved_at_most x f t) (halved_at_most y g u))
