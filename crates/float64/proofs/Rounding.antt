-- The operations on finite values hand a fraction to `round`; what it makes of one, in units of 2 ^ -1074. Assumes nothing.
use mathlib.Core.Path.{◌≡◌, refl, sym, ap, ◌∙◌, subst}
use mathlib.Core.Bool.{Bool, true, false, ◌&&◌, beq, cond, true≢false}
use Prim.Native.Nat.{ℕ, zero, suc, ◌+◌, ◌-◌, ◌*◌, ◌^◌, ◌≤◌, ◌<◌}
use native.Mathlib.Nat.{le_trans, le_of_eq, mul-one, mul_right_comm, eq_of_mul-eq-mul_right}
use native.Mathlib.Omega.{arith}
use borrow.Author.Tests.{ne_eqb}
use lib.Dec.{T, lit<, ltb, ltb→lt}
use lib.IntN.{ℤ}
use lib.Ieee.{Float, nan, inf, fin, binary64, unlike, up, down, span, climb, size, odd, units, round, neg, sum, add, sub, mul, div, lt, eq, le}
use lib.Ieee.Fits.{round_is}
use lib.Ieee.Exact.{HasValue, units_val, round_exact}
use lib.Ieee.Order.{drop, kept, round_mono}
use lib.Ieee.Scale.{grid}
use Rattle.float64.specs.Values.{finite, magnitude}
use Rattle.float64.proofs.Grid.{Grid}

-- ---- the operations, as equations
module _ (s : Bool) (m : ℕ) (e : ℤ) (t : Bool) (n : ℕ) (d : ℤ) where
  pub add_is : add binary64 (fin s m e) (fin t n d) ≡ sum binary64 s (m * up e * down d) t (n * up d * down e) (down e * down d)
  unfolding add
  add_is = refl

  pub mul_is : mul binary64 (fin s m e) (fin t n d) ≡ round binary64 (unlike s t) (m * up e * (n * up d)) (down e * down d)
  unfolding mul
  mul_is = refl

  -- by what is not a zero
  pub div_is : 0 < n → div binary64 (fin s m e) (fin t n d) ≡ round binary64 (unlike s t) (m * up e * down d) (n * up d * down e)
  unfolding div
  div_is h = rw (ne_eqb n 0 (λ z. omega arith))

pub sub_is : (x y : Float) → sub binary64 x y ≡ add binary64 x (neg y)
unfolding sub
sub_is x y = refl

-- Two sums whose terms are in the same order are related as what they round is.
pub sums_related : (R : Float → Float → Type 0) (s t : Bool) (a b c a' b' c' : ℕ) → ltb a b ≡ ltb a' b' → ltb b a ≡ ltb b' a'
    → ((r : Bool) → R (round binary64 r (a + b) c) (round binary64 r (a' + b') c'))
    → ((r : Bool) → R (round binary64 r (b - a) c) (round binary64 r (b' - a') c'))
    → ((r : Bool) → R (round binary64 r (a - b) c) (round binary64 r (a' - b') c'))
    → R (sum binary64 s a t b c) (sum binary64 s a' t b' c')
unfolding sum
sums_related R s t a b c a' b' c' e f plus less more = rw (e, f) (go (beq s t) (ltb a' b'))
  where
    go : (x y : Bool)
        → R (cond x (round binary64 s (a + b) c) (cond y (round binary64 t (b - a) c) (round binary64 (s && ltb b' a') (a - b) c)))
        (cond x (round binary64 s (a' + b') c') (cond y (round binary64 t (b' - a') c') (round binary64 (s && ltb b' a') (a' - b') c')))
    go true y = plus s
    go false true = less t
    go false false = more (s && ltb b' a')

-- ---- what a / c rounds to
-- `grid` units, below 2 ^ 2098
pub rounded : (s : Bool) (a c : ℕ) → grid binary64 a c < 2 ^ 2098 → HasValue (round binary64 s a c) s (grid binary64 a c) (2 ^ 1074)
rounded s a c h = rw (round_is binary64 s a c) (units_val binary64 s (kept 53 (a * 2 ^ 1074) c) (drop 53 (a * 2 ^ 1074) c) h)

units_below : (s : Bool) (q k : ℕ) → finite (units binary64 s q k) ≡ true → q * 2 ^ k < 2 ^ 2098
unfolding units finite
units_below s q k = go (ltb (q * 2 ^ k) (2 ^ 2098)) (ltb→lt (q * 2 ^ k) (2 ^ 2098))
  where
    go : (b : Bool) → (T b → q * 2 ^ k < 2 ^ 2098) → finite (cond b (odd 54 s q k 1074) (inf s)) ≡ true → q * 2 ^ k < 2 ^ 2098
    go true h f = h tt
    go false h f = absurd (true≢false (sym f))

pub finite_below : (s : Bool) (a c : ℕ) → finite (round binary64 s a c) ≡ true → grid binary64 a c < 2 ^ 2098
finite_below s a c f = units_below s (kept 53 (a * 2 ^ 1074) c) (drop 53 (a * 2 ^ 1074) c) (sym (ap finite (round_is binary64 s a c)) ∙ f)

-- the same value in units
in_units : (x : Float) (s : Bool) (a c v : ℕ) → 0 < c → a * 2 ^ 1074 ≡ v * c → HasValue x s a c → HasValue x s v (2 ^ 1074)
in_units nan s a c v h e p = p
in_units (inf t) s a c v h e p = p
in_units (fin t m k) s a c v h e p = (p.0, same (m * up k) (down k) p.1)
  where
    same : (x d : ℕ) → x * c ≡ a * d → x * 2 ^ 1074 ≡ v * d
    same x d q =
        eq_of_mul-eq-mul_right c h (x * 2 ^ 1074) (v * d)
        (mul_right_comm x (2 ^ 1074) c ∙ ap (λ (z : ℕ). z * 2 ^ 1074) q ∙ mul_right_comm a d (2 ^ 1074) ∙ ap (λ (z : ℕ). z * d) e ∙ mul_right_comm v c d)

-- a whole number of units of at most 53 digits is kept
pub rounds_to : (s : Bool) (a c v : ℕ) → 0 < c → Grid v → v < 2 ^ 2098 → a * 2 ^ 1074 ≡ v * c → HasValue (round binary64 s a c) s v (2 ^ 1074)
rounds_to s a c v h g below e =
    in_units (round binary64 s a c) s a c v h e
    (round_exact binary64 s a c g.digits g.shift h g.small (subst (λ (x : ℕ). x < 2 ^ 2098) g.is below) (e ∙ ap (λ (x : ℕ). x * c) g.is))

-- ---- the sign is only a sign
odd_unsigned : (s : Bool) (q k : ℕ) → magnitude (odd 54 s q k 1074) ≡ odd 54 false q k 1074
unfolding odd
odd_unsigned s zero k = refl
odd_unsigned s (suc q) k = refl

units_unsigned : (s : Bool) (q k : ℕ) → magnitude (units binary64 s q k) ≡ units binary64 false q k
unfolding units
units_unsigned s q k = go (ltb (q * 2 ^ k) (2 ^ 2098))
  where
    go : (b : Bool) → magnitude (cond b (odd 54 s q k 1074) (inf s)) ≡ cond b (odd 54 false q k 1074) (inf false)
    go true = odd_unsigned s q k
    go false = refl

pub round_unsigned : (s : Bool) (a c : ℕ) → magnitude (round binary64 s a c) ≡ round binary64 false a c
round_unsigned s a c =
    ap magnitude (round_is binary64 s a c) ∙ units_unsigned s (kept 53 (a * 2 ^ 1074) c) (drop 53 (a * 2 ^ 1074) c) ∙ sym (round_is binary64 false a c)

-- ---- from 2 ^ 1024 on the result is not finite
overflows : round binary64 false (2 ^ 1024) 1 ≡ inf false
unfolding round units size odd span climb
overflows = refl

not_above : (x : Float) → T (le (inf false) (magnitude x)) → finite x ≡ true → ⊥
unfolding le lt eq finite
not_above nan h f = true≢false (sym f)
not_above (inf s) h f = true≢false (sym f)
not_above (fin s m e) h f = h

pub too_large : (s : Bool) (a c : ℕ) → 0 < c → 2 ^ 1024 * c ≤ a → finite (round binary64 s a c) ≡ true → ⊥
too_large s a c h l =
    not_above (round binary64 s a c)
    (rw (round_unsigned s a c)
    (subst (λ (x : Float). T (le x (round binary64 false a c))) overflows
    (round_mono binary64 (2 ^ 1024) 1 a c (lit< tt) h (le_trans l (le_of_eq (sym (mul-one a)))))))
