-- Values of which one is twice the other: halves, doubles, and the differences and quotients of such. Assumes nothing.
use mathlib.Core.Path.{◌≡◌, refl, sym, ap, ◌∙◌, subst}
use mathlib.Core.Logic.{◌⊎◌, inl, inr}
use mathlib.Core.Bool.{Bool, true, false, not, ◌||◌, true≢false}
use Prim.Native.Nat.{ℕ, zero, suc, ◌+◌, ◌-◌, ◌*◌, ◌^◌, ◌≤◌, ◌<◌}
use native.Mathlib.Nat.{le_trans, le_of_eq, le_of_lt, lt_of_lt_of_le, lt_of_le_of_lt, lt_of_not-le, mul_comm, mul_assoc, mul_right_comm, mul-one, one-mul}
use native.Mathlib.Nat.{mul-pos, zero-lt-suc, mul-div_cancel, mul-le-mul_right, le_of_mul-le-mul_right, pow-suc}
use native.Mathlib.Decide.{dec_le}
use native.Mathlib.Omega.{arith}
use borrow.Author.Tests.{eqb-true}
use lib.Dec.{T, lit<, lit≤, ltb, eqb}
use lib.IntN.{ℤ, pos}
use lib.Pow.{pow_pos, pow_mono}
use lib.Ieee.{Float, nan, inf, fin, binary64, unlike, up, down, size, round, sum, sub, mul, div, le, fits, of_bits}
use lib.Ieee.Digits.{size-lt}
use lib.Ieee.Exact.{HasValue}
use lib.Ieee.Fits.{down_pos}
use lib.Ieee.Scale.{grid, grid_scale}
use Rattle.float64.specs.Values.{two, finite, is_zero, magnitude}
use Rattle.float64.specs.Units.{units_of}
use Rattle.float64.proofs.Grid.{Grid, zero_grid}
use Rattle.float64.proofs.Units.{zero_units, held}
use Rattle.float64.proofs.Order.{Magnitude, units_of_le}
use Rattle.float64.proofs.Operands.{product_operands}
use Rattle.float64.proofs.Rounding.{mul_is, div_is, sums_related, rounded, finite_below, rounds_to, too_large}
use Rattle.float64.proofs.UnitOperations.{same_order, sub_units, none_times, same_quotient, div_units}

-- x is twice y: both are finite and of one sign, and y is a whole number of units of 2 ^ -1074
pub record Twice (x y : Float) : Type 0 where
  pub sign : Bool
  pub units : ℕ
  pub whole : HasValue x sign (units * 2) (2 ^ 1074)
  pub half : HasValue y sign units (2 ^ 1074)

-- ---- a half: exact for a zero and from 2 ^ -1021 on, which is 2 ^ 53 units
abbrev least : Float
least = of_bits binary64 0x0020_0000_0000_0000

abbrev pub Halvable : Float → Type 0
Halvable x = (is_zero x || le least (magnitude x)) ≡ true

least_magnitude : Magnitude least
unfolding of_bits finite fits
least_magnitude = record { is_finite = tt; unsigned = refl; is_held = tt }

least_units : units_of least ≡ 2 ^ 53
unfolding of_bits
least_units = refl

unsigned_fits : (s : Bool) (m : ℕ) (e : ℤ) → T (fits binary64 (fin s m e)) → T (fits binary64 (fin false m e))
unfolding fits
unsigned_fits s zero e t = t
unsigned_fits s (suc m) e t = t

halvable_units : (s : Bool) (m : ℕ) (e : ℤ) → T (fits binary64 (fin s m e)) → Halvable (fin s m e)
    → (units_of (fin s m e) ≡ 0) ⊎ (2 ^ 53 ≤ units_of (fin s m e))
halvable_units s m e t h = go (eqb m 0) refl h
  where
    go : (z : Bool) → eqb m 0 ≡ z → (z || le least (fin false m e)) ≡ true → (units_of (fin s m e) ≡ 0) ⊎ (2 ^ 53 ≤ units_of (fin s m e))
    go true z h = inl (rw (eqb-true m 0 z) (zero_units s e))
    go false z h =
        let x : Magnitude (fin false m e) = record { is_finite = unfold finite in tt; unsigned = refl; is_held = unsigned_fits s m e t } in
        inr (subst (λ (n : ℕ). n ≤ units_of (fin s m e)) least_units (units_of_le least (fin false m e) least_magnitude x (subst T (sym h) tt)))

record Even (u : ℕ) : Type 0 where
  half : ℕ
  is : u ≡ half * 2
  grid : Grid half

even : (u : ℕ) → Grid u → (u ≡ 0) ⊎ (2 ^ 53 ≤ u) → Even u
even u g (inl z) = record { half = 0; is = z; grid = zero_grid }
even u g (inr h) = go g.shift g.is
  where
    go : (k : ℕ) → u ≡ g.digits * 2 ^ k → Even u
    go zero e = let small = g.small in absurd (omega (arith, mul-one g.digits))
    go (suc k) e =
        record {
          half = g.digits * 2 ^ k;
          is = e ∙ ap (λ (z : ℕ). g.digits * z) (pow-suc 2 k) ∙ sym (mul_assoc g.digits (2 ^ k) 2);
          grid = record { digits = g.digits; shift = k; is = refl; small = g.small };
        }

unlike_false : (s : Bool) → unlike s false ≡ s
unlike_false true = refl
unlike_false false = refl

half_of : (x : Float) (s : Bool) (v : ℕ) → Grid v → v < 2 ^ 2098 → HasValue x s (v * 2) (2 ^ 1074) → HasValue (div binary64 x two) s v (2 ^ 1074)
unfolding of_bits
half_of nan s v g l h = absurd h
half_of (inf t) s v g l h = absurd h
half_of (fin t m e) s v g l h =
    subst (λ (x : Float). HasValue x s v (2 ^ 1074)) (sym (div_is t m e false 1 (pos 1) (zero-lt-suc 0)))
    (subst (λ (r : Bool). HasValue (round binary64 (unlike t false) (m * up e * 1) (2 * down e)) r v (2 ^ 1074)) (unlike_false t ∙ h.0)
    (rounds_to (unlike t false) (m * up e * 1) (2 * down e) v (mul-pos (zero-lt-suc 1) (down_pos e)) g l
    (ap (λ (z : ℕ). z * 2 ^ 1074) (mul-one (m * up e)) ∙ h.1 ∙ mul_assoc v 2 (down e))))

nan_not_finite : ¬ (finite nan ≡ true)
unfolding finite
nan_not_finite e = true≢false (sym e)

infinity_not_finite : (s : Bool) → ¬ (finite (inf s) ≡ true)
unfolding finite
infinity_not_finite s e = true≢false (sym e)

half_below : (n v : ℕ) → n ≡ v * 2 → n < 2 ^ 2098 → v < 2 ^ 2098
half_below n v e l = lt_of_le_of_lt (more n v e) l
  where
    more : (n v : ℕ) → n ≡ v * 2 → v ≤ n
    more n v e = omega arith

pub halved : (x : Float) → finite x ≡ true → T (fits binary64 x) → Halvable x → Twice x (div binary64 x two)
halved nan f t h = absurd (nan_not_finite f)
halved (inf s) f t h = absurd (infinity_not_finite s f)
halved (fin s m e) f t h =
    let x = fin s m e in
    let p = held x (unfold finite in tt) t in
    let w = even (units_of x) p.grid (halvable_units s m e t h) in
    let v : HasValue x s (w.half * 2) (2 ^ 1074) = subst (λ (n : ℕ). HasValue x s n (2 ^ 1074)) w.is p.value in
    record { sign = s; units = w.half; whole = v; half = half_of x s w.half w.grid (half_below (units_of x) w.half w.is p.below) v }

-- ---- a double: exact where it is finite
twice_grid : (v : ℕ) → Grid v → Grid (v * 2)
twice_grid v g =
    record {
      digits = g.digits;
      shift = suc g.shift;
      is = ap (λ (z : ℕ). z * 2) g.is ∙ mul_assoc g.digits (2 ^ g.shift) 2 ∙ ap (λ (z : ℕ). g.digits * z) (sym (pow-suc 2 g.shift));
      small = g.small;
    }

false_unlike : (s : Bool) → unlike false s ≡ s
false_unlike true = refl
false_unlike false = refl

twice_is : (s : Bool) (m : ℕ) (e : ℤ) → mul binary64 two (fin s m e) ≡ round binary64 (unlike false s) (2 * (m * up e)) (1 * down e)
unfolding of_bits
twice_is s m e = mul_is false 1 (pos 1) s m e

pub doubled : (x : Float) → T (fits binary64 x) → finite (mul binary64 two x) ≡ true → Twice (mul binary64 two x) x
doubled nan t f = absurd (nan_not_finite (product_operands two nan f).1)
doubled (inf s) t f = absurd (infinity_not_finite s (product_operands two (inf s) f).1)
doubled (fin s m e) t f =
    let x = fin s m e in
    let p = held x (unfold finite in tt) t in
    let v = units_of x in
    let r = round binary64 (unlike false s) (2 * (m * up e)) (1 * down e) in
    let is : mul binary64 two (fin s m e) ≡ r = twice_is s m e in
    let exact : 2 * (m * up e) * 2 ^ 1074 ≡ v * 2 * (1 * down e) = in_twice (m * up e) v (down e) p.value.1 in
    let C : 0 < 1 * down e = mul-pos (zero-lt-suc 0) (down_pos e) in
    let below : v * 2 < 2 ^ 2098 =
    lt_of_not-le (λ (l : 2 ^ 2098 ≤ v * 2). too_large (unlike false s) _ _ C (over _ _ _ exact l) (sym (ap finite is) ∙ f)) in
    record {
      sign = s;
      units = v;
      whole =
          subst (λ (z : Float). HasValue z s (v * 2) (2 ^ 1074)) (sym is)
          (subst (λ (b : Bool). HasValue r b (v * 2) (2 ^ 1074)) (false_unlike s)
          (rounds_to (unlike false s) (2 * (m * up e)) (1 * down e) (v * 2) C (twice_grid v p.grid) below exact));
      half = p.value;
    }
  where
    in_twice : (x v d : ℕ) → x * 2 ^ 1074 ≡ v * d → 2 * x * 2 ^ 1074 ≡ v * 2 * (1 * d)
    in_twice x v d h =
        mul_assoc 2 x (2 ^ 1074) ∙ ap (λ (z : ℕ). 2 * z) h ∙ sym (mul_assoc 2 v d)
        ∙ ap (λ (z : ℕ). z * d) (mul_comm 2 v) ∙ ap (λ (z : ℕ). v * 2 * z) (sym (one-mul d))

    over : (a c w : ℕ) → a * 2 ^ 1074 ≡ w * c → 2 ^ 2098 ≤ w → 2 ^ 1024 * c ≤ a
    over a c w h l =
        let e : 2 ^ 1024 * c * 2 ^ 1074 ≡ 2 ^ 2098 * c = mul_right_comm (2 ^ 1024) c (2 ^ 1074) in
        le_of_mul-le-mul_right (le_trans (le_of_eq e) (le_trans (mul-le-mul_right c l) (le_of_eq (sym h)))) (pow_pos 1074)

-- ---- a difference
abbrev TwiceIfFinite : Float → Float → Type 0
TwiceIfFinite x y = finite x ≡ true → Twice x y

-- Twice a whole number of units rounds to twice what it rounds to: the same digits are dropped, or none.
round_twice : (s : Bool) (x : ℕ) → TwiceIfFinite (round binary64 s (x * 2) (2 ^ 1074)) (round binary64 s x (2 ^ 1074))
round_twice s x f = go (dec_le 53 (size x))
  where
    twice : (x : ℕ) → x < 2 ^ 53 → x * 2 < 2 ^ 54
    twice x h = omega arith

    go : Dec (53 ≤ size x) → Twice (round binary64 s (x * 2) (2 ^ 1074)) (round binary64 s x (2 ^ 1074))
    go (yes h) =
        let w = grid binary64 x (2 ^ 1074) in
        let y = grid binary64 (x * 2) (2 ^ 1074) in
        let e : y ≡ w * 2 = grid_scale binary64 x (2 ^ 1074) 1 (pow_pos 1074) (subst (λ (z : ℕ). 53 ≤ size z) (sym (mul-div_cancel x (pow_pos 1074))) h) in
        let l = finite_below s (x * 2) (2 ^ 1074) f in
        record {
          sign = s;
          units = w;
          whole = subst (λ (z : ℕ). HasValue (round binary64 s (x * 2) (2 ^ 1074)) s z (2 ^ 1074)) e (rounded s (x * 2) (2 ^ 1074) l);
          half = rounded s x (2 ^ 1074) (half_below y w e l);
        }
    go (no h) =
        let small : x < 2 ^ 53 = lt_of_lt_of_le (size-lt x) (pow_mono (le_of_lt (lt_of_not-le h))) in
        let g : Grid x = record { digits = x; shift = 0; is = sym (mul-one x); small = small } in
        record {
          sign = s;
          units = x;
          whole =
              rounds_to s (x * 2) (2 ^ 1074) (x * 2) (pow_pos 1074) (twice_grid x g)
              (lt_of_lt_of_le (twice x small) (pow_mono {i = 54} {j = 2098} (lit≤ tt))) refl;
          half = rounds_to s x (2 ^ 1074) x (pow_pos 1074) g (lt_of_lt_of_le small (pow_mono {i = 53} {j = 2098} (lit≤ tt))) refl;
        }

sum_twice : (s t : Bool) (u v : ℕ) → TwiceIfFinite (sum binary64 s (u * 2) t (v * 2) (2 ^ 1074)) (sum binary64 s u t v (2 ^ 1074))
sum_twice s t u v =
    sums_related TwiceIfFinite s t (u * 2) (v * 2) (2 ^ 1074) u v (2 ^ 1074) (order u v) (order v u)
    (λ r. by r (u + v) (u * 2 + v * 2) (omega arith)) (λ r. by r (v - u) (v * 2 - u * 2) (omega arith)) (λ r. by r (u - v) (u * 2 - v * 2) (omega arith))
  where
    order : (a b : ℕ) → ltb (a * 2) (b * 2) ≡ ltb a b
    order a b = same_order (a * 2) (b * 2) 2 a b 1 (lit< tt) (lit< tt) (mul-one (a * 2)) (mul-one (b * 2))

    by : (r : Bool) (x y : ℕ) → y ≡ x * 2 → TwiceIfFinite (round binary64 r y (2 ^ 1074)) (round binary64 r x (2 ^ 1074))
    by r x y e = subst (λ (z : ℕ). TwiceIfFinite (round binary64 r z (2 ^ 1074)) (round binary64 r x (2 ^ 1074))) (sym e) (round_twice r x)

pub difference : (x x' y y' : Float) → Twice x x' → Twice y y' → finite (sub binary64 x y) ≡ true → Twice (sub binary64 x y) (sub binary64 x' y')
difference x x' y y' p q f =
    let e = sub_units x y p.sign q.sign (p.units * 2) (q.units * 2) p.whole q.whole in
    let e' = sub_units x' y' p.sign q.sign p.units q.units p.half q.half in
    let w = sum_twice p.sign (not q.sign) p.units q.units (sym (ap finite e) ∙ f) in
    subst (λ (z : Float). Twice z (sub binary64 x' y')) (sym e)
    (subst (Twice (sum binary64 p.sign (p.units * 2) (not q.sign) (q.units * 2) (2 ^ 1074))) (sym e') w)

-- ---- a quotient
pub quotient : (x x' y y' : Float) → Twice x x' → Twice y y' → div binary64 x y ≡ div binary64 x' y'
quotient x x' y y' p q =
    div_units x y p.sign q.sign (p.units * 2) (q.units * 2) p.whole q.whole
    ∙ same_quotient (unlike p.sign q.sign) (p.units * 2) (q.units * 2) p.units q.units (none_times p.units 2 (lit< tt))
    (none_times q.units 2 (lit< tt)) (mul_right_comm p.units 2 q.units ∙ mul_assoc p.units q.units 2)
    ∙ sym (div_units x' y' p.sign q.sign p.units q.units p.half q.half)
