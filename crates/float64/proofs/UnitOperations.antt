-- The difference and the quotient of finite values see only the values, so both can be had from whole numbers of units of 2 ^ -1074. Assumes nothing.
use mathlib.Core.Path.{◌≡◌, refl, sym, ap, ◌∙◌, subst}
use mathlib.Core.Bool.{Bool, true, false, not, cond, true≢false}
use Prim.Native.Nat.{ℕ, zero, suc, ◌+◌, ◌-◌, ◌*◌, ◌^◌, ◌≤◌, ◌<◌}
use native.Mathlib.Nat.{lt_irrefl, mul_comm, mul_assoc, mul_left_comm, mul_right_comm, zero-mul, add-mul, mul-sub, mul-pos, zero-lt-suc}
use native.Mathlib.Nat.{eq_of_mul-eq-mul_right, mul-lt-mul_of_pos_right, lt_of_mul-lt-mul_right, mul-le-mul_right, le_of_mul-le-mul_right}
use native.Mathlib.Omega.{arith}
use borrow.Author.Tests.{ltb-true, ltb-false, lt-ltb, le-ltb, eq-eqb, ne_eqb}
use lib.Dec.{ltb, eqb}
use lib.IntN.{ℤ}
use lib.Pow.{pow_pos}
use lib.Ieee.{Float, nan, inf, fin, binary64, unlike, up, down, round, neg, sum, add, sub, div}
use lib.Ieee.Exact.{HasValue}
use lib.Ieee.Fits.{up_pos, down_pos}
use lib.Ieee.Scale.{round_same}
use Rattle.float64.proofs.Rounding.{sums_related}

-- ---- a difference
less_times : (x y k : ℕ) → (x - y) * k ≡ x * k - y * k
less_times x y k = mul_comm (x - y) k ∙ mul-sub k x y ∙ rw (mul_comm k x, mul_comm k y)

-- a / c is a' / c', and b / c is b' / c'
module _ (a b c a' b' c' : ℕ) (C : 0 < c) (C' : 0 < c') (p : a * c' ≡ a' * c) (q : b * c' ≡ b' * c) where
  pub same_order : ltb a b ≡ ltb a' b'
  same_order = go (ltb a' b') refl
    where
      go : (t : Bool) → ltb a' b' ≡ t → ltb a b ≡ t
      go true h =
          lt-ltb a b
          (lt_of_mul-lt-mul_right c'
          (subst (λ (z : ℕ). z < b * c') (sym p) (subst (λ (z : ℕ). a' * c < z) (sym q) (mul-lt-mul_of_pos_right (ltb-true a' b' h) C))))
      go false h =
          le-ltb a b
          (le_of_mul-le-mul_right (subst (λ (z : ℕ). z ≤ a * c') (sym q) (subst (λ (z : ℕ). b' * c ≤ z) (sym p) (mul-le-mul_right c (ltb-false a' b' h)))) C')

  same_sum : (a + b) * c' ≡ (a' + b') * c
  same_sum = add-mul a b c' ∙ rw (p, q) (sym (add-mul a' b' c))

  same_rest : (b - a) * c' ≡ (b' - a') * c
  same_rest = less_times b a c' ∙ rw (q, p) (sym (less_times b' a' c))

-- a sum sees only the values of its terms
sum_same : (s t : Bool) (a b c a' b' c' : ℕ) → 0 < c → 0 < c' → a * c' ≡ a' * c → b * c' ≡ b' * c → sum binary64 s a t b c ≡ sum binary64 s a' t b' c'
sum_same s t a b c a' b' c' C C' p q =
    sums_related (λ (x y : Float). x ≡ y) s t a b c a' b' c' (same_order a b c a' b' c' C C' p q) (same_order b a c b' a' c' C C' q p)
    (λ r. round_same binary64 r (a + b) c (a' + b') c' C C' (same_sum a b c a' b' c' C C' p q))
    (λ r. round_same binary64 r (b - a) c (b' - a') c' C C' (same_rest a b c a' b' c' C C' p q))
    (λ r. round_same binary64 r (a - b) c (a' - b') c' C C' (same_rest b a c b' a' c' C C' q p))

sub_opened : (i : Bool) (m : ℕ) (e : ℤ) (j : Bool) (n : ℕ) (d : ℤ)
    → sub binary64 (fin i m e) (fin j n d) ≡ sum binary64 i (m * up e * down d) (not j) (n * up d * down e) (down e * down d)
unfolding sub add neg
sub_opened i m e j n d = refl

-- the difference of u and v units
pub sub_units : (x y : Float) (s t : Bool) (u v : ℕ) → HasValue x s u (2 ^ 1074) → HasValue y t v (2 ^ 1074)
    → sub binary64 x y ≡ sum binary64 s u (not t) v (2 ^ 1074)
sub_units nan y s t u v h k = absurd h
sub_units (inf i) y s t u v h k = absurd h
sub_units (fin i m e) nan s t u v h k = absurd k
sub_units (fin i m e) (inf j) s t u v h k = absurd k
sub_units (fin i m e) (fin j n d) s t u v h k =
    sub_opened i m e j n d
    ∙ sum_same i (not j) (m * up e * down d) (n * up d * down e) (down e * down d) u v (2 ^ 1074) (mul-pos (down_pos e) (down_pos d)) (pow_pos 1074)
    (over (m * up e) (down e) (down d) u h.1) (over (n * up d) (down d) (down e) v k.1 ∙ ap (λ (z : ℕ). v * z) (mul_comm (down d) (down e)))
    ∙ rw (h.0, k.0)
  where
    over : (x d f u : ℕ) → x * 2 ^ 1074 ≡ u * d → x * f * 2 ^ 1074 ≡ u * (d * f)
    over x d f u h = mul_right_comm x f (2 ^ 1074) ∙ ap (λ (z : ℕ). z * f) h ∙ mul_assoc u d f

-- ---- a quotient
-- `div` of finite values, by a fraction for each
abbrev pub quotient_of : Bool → ℕ → ℕ → Float
quotient_of s a c = cond (eqb c 0) (cond (eqb a 0) nan (inf s)) (round binary64 s a c)

pub none_times : (n k : ℕ) → 0 < k → eqb (n * k) 0 ≡ eqb n 0
none_times zero k h = eq-eqb (0 * k) 0 (zero-mul k)
none_times (suc n) k h =
    ne_eqb (suc n * k) 0 (λ e. lt_irrefl 0 (subst (λ (z : ℕ). 0 < z) e (mul-pos (zero-lt-suc n) h))) ∙ sym (ne_eqb (suc n) 0 (λ z. omega arith))

-- a / c is u / v
pub same_quotient : (s : Bool) (a c u v : ℕ) → eqb a 0 ≡ eqb u 0 → eqb c 0 ≡ eqb v 0 → a * v ≡ u * c → quotient_of s a c ≡ quotient_of s u v
same_quotient s a c u v p q e = rw (p, q) (go (eqb v 0) refl)
  where
    above : (n : ℕ) → eqb n 0 ≡ false → 0 < n
    above zero h = absurd (true≢false h)
    above (suc n) h = zero-lt-suc n

    go : (z : Bool) → eqb v 0 ≡ z → cond z (cond (eqb u 0) nan (inf s)) (round binary64 s a c) ≡ cond z (cond (eqb u 0) nan (inf s)) (round binary64 s u v)
    go true h = refl
    go false h = round_same binary64 s a c u v (above c (q ∙ h)) (above v h) e

div_opened : (i : Bool) (m : ℕ) (e : ℤ) (j : Bool) (n : ℕ) (d : ℤ)
    → div binary64 (fin i m e) (fin j n d) ≡ quotient_of (unlike i j) (m * up e * down d) (n * up d * down e)
unfolding div
div_opened i m e j n d = rw (test m (up e) (down d) (up_pos e) (down_pos d), test n (up d) (down e) (up_pos d) (down_pos e))
  where
    test : (n k l : ℕ) → 0 < k → 0 < l → eqb (n * k * l) 0 ≡ eqb n 0
    test n k l K L = none_times (n * k) l L ∙ none_times n k K

-- the quotient of u and v units
pub div_units : (x y : Float) (s t : Bool) (u v : ℕ) → HasValue x s u (2 ^ 1074) → HasValue y t v (2 ^ 1074) → div binary64 x y ≡ quotient_of (unlike s t) u v
div_units nan y s t u v h k = absurd h
div_units (inf i) y s t u v h k = absurd h
div_units (fin i m e) nan s t u v h k = absurd k
div_units (fin i m e) (inf j) s t u v h k = absurd k
div_units (fin i m e) (fin j n d) s t u v h k =
    div_opened i m e j n d
    ∙ rw (h.0, k.0)
    (same_quotient (unlike s t) (m * up e * down d) (n * up d * down e) u v (test (m * up e) (down e) (down d) u (down_pos e) (down_pos d) h.1)
    (test (n * up d) (down d) (down e) v (down_pos d) (down_pos e) k.1) (crossed (m * up e) (down e) (n * up d) (down d) h.1 k.1))
  where
    test : (x d f u : ℕ) → 0 < d → 0 < f → x * 2 ^ 1074 ≡ u * d → eqb (x * f) 0 ≡ eqb u 0
    test x d f u D F e = none_times x f F ∙ sym (none_times x (2 ^ 1074) (pow_pos 1074)) ∙ ap (λ (z : ℕ). eqb z 0) e ∙ none_times u d D

    crossed : (x c y f : ℕ) → x * 2 ^ 1074 ≡ u * c → y * 2 ^ 1074 ≡ v * f → x * f * v ≡ u * (y * c)
    crossed x c y f p q =
        eq_of_mul-eq-mul_right (2 ^ 1074) (pow_pos 1074) (x * f * v) (u * (y * c))
        (first (2 ^ 1074) ∙ rw p (ap (λ (z : ℕ). u * c * z) (mul_comm f v ∙ sym q)) ∙ last (2 ^ 1074))
      where
        first : (l : ℕ) → x * f * v * l ≡ x * l * (f * v)
        first l = simp (mul_assoc, mul_comm, mul_left_comm)

        last : (l : ℕ) → u * c * (y * l) ≡ u * (y * c) * l
        last l = simp (mul_assoc, mul_comm)
