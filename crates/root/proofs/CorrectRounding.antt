-- The square root is the correctly rounded one. Assumes nothing.
use Rattle.std.proofs.Common.{◌≡◌, ℕ, ◌+◌, ◌*◌, ◌/◌, ◌^◌, ◌<◌, ◌≤◌, true, false, T, sym, refl, ap, ◌∙◌, subst, true≢false, lt_of_lt_of_le, mul-le-mul_right}
use Rattle.std.proofs.Common.{arith, pow_mono, shl_lt}
use lib.Ieee.{Float, nan, inf, fin, binary64, le, fits, of_bits}
use lib.Ieee.Positive.{positive}
use Rattle.refusal.specs.Answers.{given}
use Rattle.float64.specs.Values.{one, finite}
use Rattle.float64.specs.Units.{units_of}
use Rattle.float64.proofs.Grid.{Top, top_of, power_lt_back}
use Rattle.float64.proofs.Units.{held, units_above, same_units}
use Rattle.float64.proofs.Patterns.{odd_units}
use Rattle.float64.proofs.Order.{Magnitude, odd_magnitude, le_of_units, units_of_le}
use Rattle.root.specs.Sqrt.{root_units, sqrt_of}
use Rattle.root.proofs.Scales.{digits_of, digits53, root_units_at}
use Rattle.root.proofs.RootCases.{sqrt_positive}
use Rattle.root.proofs.RootUnits.{Rooted, rooted_at, rooted_mono, rooted_exact, nearest_above, nearest_below}

-- x is a value of binary64, finite and above zero, and r is its root.
pub record RootOf (x r : Float) : Type 0 where
  pub is : sqrt_of x ≡ given r
  pub value : Magnitude x
  pub root : Magnitude r
  pub rooted : Rooted (units_of x) (units_of r)

magnitude_of : (x : Float) → positive x ≡ true → T (fits binary64 x) → Magnitude x
unfolding finite
magnitude_of nan p f = absurd (true≢false (sym p))
magnitude_of (inf s) p f = absurd (true≢false (sym p))
magnitude_of (fin true m e) p f = absurd (true≢false (sym p))
magnitude_of (fin false m e) p f = record { is_finite = tt; unsigned = refl; is_held = f }

-- n below 2 ^ 2098 has a root below 2 ^ 2098
room : (n : ℕ) (t : Top n) → n < 2 ^ 2098 → t.z ≤ 2098
room n t h = least (power_lt_back t.z 2099 (doubled (2 ^ t.z) (t.m * 2 ^ t.z) n (2 ^ 2098) (mul-le-mul_right (2 ^ t.z) t.m_ge) t.is h))
  where
    least : t.z < 2099 → t.z ≤ 2098
    least l = omega arith

    doubled : (a b n limit : ℕ) → 2 ^ 52 * a ≤ b → n * 2 ^ 53 ≡ b → n < limit → a < 2 * limit
    doubled a b n limit x y z = omega arith

-- Every finite value above zero has a root that binary64 holds.
pub root_of_lem : (x : Float) → positive x ≡ true → T (fits binary64 x) → (r : Float) × RootOf x r
root_of_lem x p f =
    let n = units_of x in
    let v = magnitude_of x p f in
    let h = held x v.is_finite f in
    let t = top_of n (units_above x (subst T (sym p) tt) f) h.grid in
    let q = digits_of t.m t.z in
    let d = digits53 t.m t.z t.m_ge t.m_lt in
    let k = 484 + (t.z + 1) / 2 in
    let e = root_units_at n t.m t.z t.is t.m_ge t.m_lt t.z_ge in
    let z = room n t h.below in (
      root_units n,
      record {
        is = sqrt_positive x p;
        value = v;
        root = subst Magnitude e (odd_magnitude q k d.1 (lt_of_lt_of_le (shl_lt 53 k d.1) (pow_mono (fit t.z z))));
        rooted = subst (λ (y : ℕ). Rooted n y) (sym (odd_units q k) ∙ ap units_of e) (rooted_at n t);
      },
    )
  where
    fit : (z : ℕ) → z ≤ 2098 → 53 + (484 + (z + 1) / 2) ≤ 2098
    fit z h = omega arith

-- In units, for every finite y that binary64 holds: the middle of the root r and y lies beyond the exact root, so y is not as near as r, and there is no tie.
pub nearest : (x r y : Float) → RootOf x r → T (finite y) → T (fits binary64 y)
    → (units_of r < units_of y → 4 * (units_of x * 2 ^ 1074) < (units_of r + units_of y) * (units_of r + units_of y))
    × (units_of y < units_of r → (units_of r + units_of y) * (units_of r + units_of y) < 4 * (units_of x * 2 ^ 1074))
nearest x r y h f t =
    let g = (held y f t).grid in
    (nearest_above (units_of x) (units_of r) h.rooted (units_of y) g, nearest_below (units_of x) (units_of r) h.rooted (units_of y) g)

-- Larger values have roots that are no smaller.
pub ordered : (x y r s : Float) → RootOf x r → RootOf y s → T (le x y) → T (le r s)
ordered x y r s h k l =
    le_of_units r s h.root k.root
    (rooted_mono (units_of x) (units_of y) (units_of r) (units_of s) h.rooted k.rooted (units_of_le x y h.value k.value l))

-- The root of 1 is 1.
pub root_of_one : sqrt_of one ≡ given one
unfolding sqrt_of of_bits
root_of_one = refl

-- A value of binary64 whose square is x is the root.
pub exact : (x r y : Float) → RootOf x r → Magnitude y → units_of y * units_of y ≡ units_of x * 2 ^ 1074 → r ≡ y
exact x r y h m e =
    same_units r y h.root.is_finite m.is_finite h.root.is_held m.is_held (h.root.unsigned ∙ sym m.unsigned)
    (rooted_exact (units_of x) (units_of r) (units_of y) h.rooted (held y m.is_finite m.is_held).grid e)
