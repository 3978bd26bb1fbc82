-- Roots in units of 2 ^ -1074: the root is nearer to the exact root than any other value of 53 digits. Assumes nothing.
use Rattle.std.proofs.Common.{◌≡◌, ℕ, suc, ◌+◌, ◌-◌, ◌*◌, ◌/◌, ◌^◌, ◌<◌, ◌≤◌, sym, refl, ap, ◌∙◌, subst, le_trans, le_of_eq, lt_of_lt_of_le, lt_of_le_of_lt}
use Rattle.std.proofs.Common.{mul-le-mul_right, mul_assoc, suc-mul, add-mul, add_comm, le_antisymm, mul-lt-mul_of_pos_right, mul-pos, arith, pow_pos, pow-add}
use native.Mathlib.Nat.{mul-mul-mul_comm}
use native.Mathlib.Nat.{eq_of_mul-eq-mul_right}
use native.Mathlib.Decide.{dec_le}
use Rattle.float64.proofs.Grid.{Grid, next_above, next_below, Top}
use Rattle.root.proofs.Squares.{next_square, twice_square, twice_next_square, square_le, square_lt}
use Rattle.root.proofs.Floors.{Nearest, nearest_root_lem}
use Rattle.root.proofs.Scales.{k_of, digits_of, wide, digits53, scaled_by_four, four_power}

-- R units are the root of n units: R = q * 2 ^ k and n * 2 ^ 1074 = w * 4 ^ k, with q the whole number nearest to the root of w.
pub record Rooted (n R : ℕ) : Type 0 where
  pub q : ℕ
  pub k : ℕ
  pub w : ℕ
  pub is : R ≡ q * 2 ^ k
  pub scale : n * 2 ^ 1074 ≡ w * (2 ^ k * 2 ^ k)
  pub nearest : Nearest w q
  pub q_ge : 2 ^ 52 ≤ q
  pub q_lt : q < 2 ^ 53
  pub w_ge : 2 ^ 104 ≤ w

-- ---- the middles beside q * u, against the root of w * u * u
module _ (w q u : ℕ) (p : 0 < u) where
  middle : (q * u + suc q * u) * (q * u + suc q * u) ≡ (2 * q + 1) * (2 * q + 1) * (u * u)
  middle = ap (λ (x : ℕ). x * x) (sym (add-mul q (suc q) u) ∙ ap (λ (x : ℕ). x * u) sum) ∙ mul-mul-mul_comm (2 * q + 1) u (2 * q + 1) u
    where
      sum : q + suc q ≡ 2 * q + 1
      sum = omega arith

  -- above q
  over : w ≤ q * q + q → 4 * (w * (u * u)) < (q * u + suc q * u) * (q * u + suc q * u)
  over h =
      let s = twice_next_square q in
      let l : 4 * w < (2 * q + 1) * (2 * q + 1) = omega arith in
      subst (λ (x : ℕ). 4 * (w * (u * u)) < x) (sym middle)
      (subst (λ (x : ℕ). x < (2 * q + 1) * (2 * q + 1) * (u * u)) (mul_assoc 4 w (u * u)) (mul-lt-mul_of_pos_right l (mul-pos p p)))

  -- below q + 1
  under : suc q * suc q < w + suc q → (q * u + suc q * u) * (q * u + suc q * u) < 4 * (w * (u * u))
  under h =
      let s = twice_next_square q in
      let t : suc q * suc q ≡ q * q + 2 * q + 1 = ap (λ (x : ℕ). x * x) next ∙ next_square q in
      let l : (2 * q + 1) * (2 * q + 1) < 4 * w = omega arith in
      subst (λ (x : ℕ). x < 4 * (w * (u * u))) (sym middle)
      (subst (λ (x : ℕ). (2 * q + 1) * (2 * q + 1) * (u * u) < x) (mul_assoc 4 w (u * u)) (mul-lt-mul_of_pos_right l (mul-pos p p)))
    where
      next : suc q ≡ q + 1
      next = omega arith

sum_le : (a b c d : ℕ) → a ≤ c → b ≤ d → a + b ≤ c + d
sum_le a b c d x y = omega arith

-- ---- from R, any other p lies past the middle of the two
module _ (n R : ℕ) (r : Rooted n R) (p : ℕ) (g : Grid p) where
  pub nearest_above : R < p → 4 * (n * 2 ^ 1074) < (R + p) * (R + p)
  nearest_above h =
      let u = 2 ^ r.k in
      let s : suc r.q * u ≤ p = next_above r.q r.k p r.q_ge g (subst (λ (x : ℕ). x < p) r.is h) in
      let o : r.q * u + suc r.q * u ≤ R + p = sum_le (r.q * u) (suc r.q * u) R p (le_of_eq (sym r.is)) s in
      lt_of_lt_of_le
      (subst (λ (x : ℕ). 4 * x < (r.q * u + suc r.q * u) * (r.q * u + suc r.q * u)) (sym r.scale)
      (over r.w r.q u (pow_pos r.k) r.nearest.1))
      (square_le (r.q * u + suc r.q * u) (R + p) o)

  -- q = q' + 1, above 2 ^ 52
  below_next : (q : ℕ) → r.q ≡ suc q → 2 ^ 52 < r.q → p < R → (R + p) * (R + p) < 4 * (n * 2 ^ 1074)
  below_next q e l h =
      let u = 2 ^ r.k in
      let b : p + u ≤ r.q * u = next_below r.q r.k p l g (subst (λ (x : ℕ). p < x) r.is h) in
      let f : r.q * u ≡ suc q * u = ap (λ (x : ℕ). x * u) e in
      let b' : p ≤ q * u = (let s = suc-mul q u in omega arith) in
      let o : p + R ≤ q * u + suc q * u = sum_le p R (q * u) (suc q * u) b' (le_of_eq (r.is ∙ f)) in
      lt_of_le_of_lt (subst (λ (x : ℕ). x * x ≤ (q * u + suc q * u) * (q * u + suc q * u)) (add_comm p R) (square_le (p + R) (q * u + suc q * u) o))
      (subst (λ (x : ℕ). (q * u + suc q * u) * (q * u + suc q * u) < 4 * x) (sym r.scale)
      (under r.w q u (pow_pos r.k) (subst (λ (x : ℕ). x * x < r.w + x) e r.nearest.0)))

  -- q = 2 ^ 52: the next value below is nearer by half, and R is at most the exact root
  below_power : r.q ≡ 2 ^ 52 → p < R → (R + p) * (R + p) < 4 * (n * 2 ^ 1074)
  below_power e h =
      let u = 2 ^ r.k in
      let s : r.q * r.q ≤ r.w = le_trans (le_of_eq (ap (λ (x : ℕ). x * x) e)) r.w_ge in
      let RR : R * R ≤ n * 2 ^ 1074 =
      le_trans (le_of_eq (ap (λ (x : ℕ). x * x) r.is ∙ mul-mul-mul_comm r.q u r.q u))
      (le_trans (mul-le-mul_right (u * u) s) (le_of_eq (sym r.scale))) in
      last ((R + p) * (R + p)) (2 * R * (2 * R)) (R * R) (n * 2 ^ 1074) (square_lt (R + p) (2 * R) (omega arith)) (twice_square R) RR
    where
      last : (a b c d : ℕ) → a < b → b ≡ 4 * c → c ≤ d → a < 4 * d
      last a b c d x y z = omega arith

  pub nearest_below : p < R → (R + p) * (R + p) < 4 * (n * 2 ^ 1074)
  nearest_below h = go (dec_le (suc (2 ^ 52)) r.q)
    where
      back : (q : ℕ) → 2 ^ 52 < q → q ≡ suc (q - 1)
      back q l = omega arith

      only : (q : ℕ) → 2 ^ 52 ≤ q → (suc (2 ^ 52) ≤ q → ⊥) → q ≡ 2 ^ 52
      only q a f = omega arith

      go : Dec (suc (2 ^ 52) ≤ r.q) → (R + p) * (R + p) < 4 * (n * 2 ^ 1074)
      go (yes l) = below_next (r.q - 1) (back r.q l) l h
      go (no f) = below_power (only r.q r.q_ge f) h

-- ---- a root is on the grid, and roots are in order
pub rooted_grid : (n R : ℕ) → Rooted n R → Grid R
rooted_grid n R r = record { digits = r.q; shift = r.k; is = r.is; small = r.q_lt }

pub rooted_mono : (n n' R R' : ℕ) → Rooted n R → Rooted n' R' → n ≤ n' → R ≤ R'
rooted_mono n n' R R' r r' h = unless (λ (l : R' < R).
    let a : (R + R') * (R + R') < 4 * (n * 2 ^ 1074) = nearest_below n R r R' (rooted_grid n' R' r') l in
    let b : 4 * (n' * 2 ^ 1074) < (R' + R) * (R' + R) = nearest_above n' R' r' R (rooted_grid n R r) l in
    clash (n * 2 ^ 1074) (n' * 2 ^ 1074) ((R + R') * (R + R')) ((R' + R) * (R' + R)) a b (mul-le-mul_right (2 ^ 1074) h)
    (ap (λ (x : ℕ). x * x) (add_comm R' R)))
  where
    unless : (R' < R → ⊥) → R ≤ R'
    unless f = omega arith

    clash : (a b c d : ℕ) → c < 4 * a → 4 * b < d → a ≤ b → d ≡ c → ⊥
    clash a b c d x y z e = omega arith

-- ---- a value whose square is at most n is at most the root, and one whose square is at least n at least it
module _ (n R p : ℕ) (r : Rooted n R) (g : Grid p) where
  pub rooted_ge : p * p ≤ n * 2 ^ 1074 → p ≤ R
  rooted_ge h =
      unless (λ (l : R < p). clash (n * 2 ^ 1074) (p * p) ((R + p) * (R + p)) (2 * p * (2 * p)) (nearest_above n R r p g l)
      (square_lt (R + p) (2 * p) (omega arith)) (twice_square p) h)
    where
      unless : (R < p → ⊥) → p ≤ R
      unless f = omega arith

      clash : (x y s t : ℕ) → 4 * x < s → s < t → t ≡ 4 * y → y ≤ x → ⊥
      clash x y s t a b c d = omega arith

  pub rooted_le : n * 2 ^ 1074 ≤ p * p → R ≤ p
  rooted_le h =
      unless (λ (l : p < R). clash (n * 2 ^ 1074) (p * p) ((R + p) * (R + p)) (2 * p * (2 * p)) (nearest_below n R r p g l)
      (square_le (2 * p) (R + p) (omega arith)) (twice_square p) h)
    where
      unless : (p < R → ⊥) → R ≤ p
      unless f = omega arith

      clash : (x y s t : ℕ) → s < 4 * x → t ≤ s → t ≡ 4 * y → x ≤ y → ⊥
      clash x y s t a b c d = omega arith

  -- an exact root is found
  pub rooted_exact : p * p ≡ n * 2 ^ 1074 → R ≡ p
  rooted_exact e = le_antisymm (rooted_le (le_of_eq (sym e))) (rooted_ge (le_of_eq e))

-- the root is exact exactly where q * q is w
pub exact_digits : (n R : ℕ) (r : Rooted n R) → (r.q * r.q ≡ r.w → R * R ≡ n * 2 ^ 1074) × (R * R ≡ n * 2 ^ 1074 → r.q * r.q ≡ r.w)
exact_digits n R r =
    let u = 2 ^ r.k in
    let s : R * R ≡ r.q * r.q * (u * u) = ap (λ (x : ℕ). x * x) r.is ∙ mul-mul-mul_comm r.q u r.q u in (
      λ e. s ∙ ap (λ (x : ℕ). x * (u * u)) e ∙ sym r.scale,
      λ e. eq_of_mul-eq-mul_right (u * u) (mul-pos (pow_pos r.k) (pow_pos r.k)) (r.q * r.q) r.w (sym s ∙ e ∙ r.scale),
    )

-- ---- the digits that `root_units` finds
pub rooted_at : (n : ℕ) (t : Top n) → Rooted n (digits_of t.m t.z * 2 ^ (484 + (t.z + 1) / 2))
rooted_at n t =
    let m = t.m in
    let z = t.z in
    let h = (z + 1) / 2 in
    let w = k_of m z * 2 ^ 52 in
    let b = wide m z t.m_ge t.m_lt in
    let d = digits53 m z t.m_ge t.m_lt in
    record {
      q = digits_of m z;
      k = 484 + h;
      w = w;
      is = refl;
      scale =
          sym (mul_assoc n (4 ^ 53) (4 ^ 484))
          ∙ ap (λ (x : ℕ). x * 4 ^ 484) (scaled_by_four n m z t.is)
          ∙ mul_assoc w (4 ^ h) (4 ^ 484)
          ∙ ap (λ (x : ℕ). w * x) (sym (pow-add 4 h 484) ∙ ap (λ (x : ℕ). 4 ^ x) (add_comm h 484) ∙ four_power (484 + h));
      nearest = nearest_root_lem w (omega arith) (omega arith);
      q_ge = d.0;
      q_lt = d.1;
      w_ge = omega arith;
    }

-- they are exact exactly where their square is the scaled value
pub exact_at : (n : ℕ) (t : Top n)
    → let q = digits_of t.m t.z in let w = k_of t.m t.z * 2 ^ 52 in let R = q * 2 ^ (484 + (t.z + 1) / 2) in
    (q * q ≡ w → R * R ≡ n * 2 ^ 1074) × (R * R ≡ n * 2 ^ 1074 → q * q ≡ w)
unfolding rooted_at
exact_at n t = exact_digits n (digits_of t.m t.z * 2 ^ (484 + (t.z + 1) / 2)) (rooted_at n t)
