-- The root of n units by its 53 digits at the top: n = m * 2 ^ z / 2 ^ 53. Assumes nothing.
use Rattle.std.proofs.Common.{◌≡◌, ℕ, zero, suc, ◌+◌, ◌-◌, ◌*◌, ◌/◌, ◌%◌, ◌^◌, ◌<◌, ◌≤◌, false, sym, refl, ap, ◌∙◌, subst, mul-le-mul_right, mul_assoc}
use Rattle.std.proofs.Common.{mul-lt-mul_of_pos_right, mul-div_cancel, arith, pow_pos, pow-add}
use native.Mathlib.Nat.{pow-succ'}
use lib.Ieee.{odd, size}
use lib.Ieee.Digits.{size-lt, size-le}
use Rattle.std.specs.Int.Count.{count_leading_zeros}
use Rattle.std.proofs.lemmas.Nat.{leading_top}
use Rattle.float64.proofs.Grid.{power_lt_back}
use Rattle.root.specs.Sqrt.{nearest_root, root_units}
use Rattle.root.proofs.Squares.{twice_square}
use Rattle.root.proofs.Floors.{root_digits}

-- ---- how many digits n has
size_at : (n m z : ℕ) → n * 2 ^ 53 ≡ m * 2 ^ z → 2 ^ 52 ≤ m → m < 2 ^ 53 → 1 ≤ z → size n ≡ z
size_at n m z e lo hi p =
    let a : m * 2 ^ z < 2 ^ 53 * 2 ^ z = mul-lt-mul_of_pos_right hi (pow_pos z) in
    let b : 2 ^ 52 * 2 ^ z ≤ m * 2 ^ z = mul-le-mul_right (2 ^ z) lo in
    let c : size n ≤ z = size-le n z (omega arith) in
    let t : 2 ^ z ≡ 2 * 2 ^ (z - 1) = ap (λ (x : ℕ). 2 ^ x) (next z p) ∙ pow-succ' 2 (z - 1) in
    let d : z - 1 < size n = power_lt_back (z - 1) (size n) (let s = size-lt n in omega arith) in
    omega arith
  where
    next : (z : ℕ) → 1 ≤ z → z ≡ suc (z - 1)
    next z h = omega arith

-- ---- w = n * 4 ^ 53 / 4 ^ h is k * 2 ^ 52
pub four_power : (h : ℕ) → 4 ^ h ≡ 2 ^ h * 2 ^ h
four_power zero = refl
four_power (suc h) = pow-succ' 4 h ∙ ap (λ (x : ℕ). 4 * x) (four_power h) ∙ sym (twice_square (2 ^ h)) ∙ ap (λ (x : ℕ). x * x) (sym (pow-succ' 2 h))

abbrev pub k_of : ℕ → ℕ → ℕ
k_of m z = m * (2 - z % 2)

-- (2 - z % 2) * 2 ^ 52 * 4 ^ h is 2 ^ (z + 53)
parity : (z : ℕ) → 2 - z % 2 ≡ 2 ^ (1 - z % 2)
parity z = go (z % 2) (omega arith)
  where
    go : (d : ℕ) → d ≤ 1 → 2 - d ≡ 2 ^ (1 - d)
    go zero l = refl
    go (suc zero) l = refl
    go (suc (suc d)) l = absurd (omega arith)

pub scaled_by_four : (n m z : ℕ) → n * 2 ^ 53 ≡ m * 2 ^ z → n * 4 ^ 53 ≡ k_of m z * 2 ^ 52 * 4 ^ ((z + 1) / 2)
scaled_by_four n m z e =
    let h = (z + 1) / 2 in
    sym (mul_assoc n (2 ^ 53) (2 ^ 53))
    ∙ ap (λ (x : ℕ). x * 2 ^ 53) e
    ∙ mul_assoc m (2 ^ z) (2 ^ 53)
    ∙ ap (λ (x : ℕ). m * x)
    (sym (pow-add 2 z 53) ∙ ap (λ (x : ℕ). 2 ^ x) (sums z) ∙ pow-add 2 (1 - z % 2 + 52) (h + h)
    ∙ ap (λ (x : ℕ). x * 2 ^ (h + h)) (pow-add 2 (1 - z % 2) 52))
    ∙ sym (mul_assoc m (2 ^ (1 - z % 2) * 2 ^ 52) (2 ^ (h + h)))
    ∙ ap (λ (x : ℕ). x * 2 ^ (h + h)) (sym (mul_assoc m (2 ^ (1 - z % 2)) (2 ^ 52)) ∙ ap (λ (x : ℕ). m * x * 2 ^ 52) (sym (parity z)))
    ∙ ap (λ (x : ℕ). k_of m z * 2 ^ 52 * x) (pow-add 2 h h ∙ sym (four_power h))
  where
    sums : (z : ℕ) → z + 53 ≡ 1 - z % 2 + 52 + ((z + 1) / 2 + (z + 1) / 2)
    sums z = omega arith

four_above : (h : ℕ) → 0 < 4 ^ h
four_above h = subst (λ (x : ℕ). 0 < x) (pow-add 2 h h ∙ sym (four_power h)) (pow_pos (h + h))

pub wide : (m z : ℕ) → 2 ^ 52 ≤ m → m < 2 ^ 53 → (2 ^ 52 ≤ k_of m z) × (k_of m z + 2 ≤ 2 ^ 54)
wide m z lo hi = go (2 - z % 2) (omega arith) (omega arith)
  where
    go : (d : ℕ) → 1 ≤ d → d ≤ 2 → (2 ^ 52 ≤ m * d) × (m * d + 2 ≤ 2 ^ 54)
    go zero l u = absurd (omega arith)
    go (suc zero) l u = (omega arith, omega arith)
    go (suc (suc zero)) l u = (omega arith, omega arith)
    go (suc (suc (suc d))) l u = absurd (omega arith)

-- ---- the digits of the root
abbrev pub digits_of : ℕ → ℕ → ℕ
digits_of m z = nearest_root (k_of m z * 2 ^ 52)

pub digits53 : (m z : ℕ) → 2 ^ 52 ≤ m → m < 2 ^ 53 → (2 ^ 52 ≤ digits_of m z) × (digits_of m z < 2 ^ 53)
digits53 m z lo hi = let b = wide m z lo hi in root_digits (k_of m z) b.0 b.1

pub root_units_at : (n m z : ℕ) → n * 2 ^ 53 ≡ m * 2 ^ z → 2 ^ 52 ≤ m → m < 2 ^ 53 → 1 ≤ z
    → odd 53 false (digits_of m z) (484 + (z + 1) / 2) 1074 ≡ root_units n
unfolding root_units
root_units_at n m z e lo hi p =
    sym (ap (λ (x : ℕ). odd 53 false (nearest_root (n * 4 ^ 53 / 4 ^ ((x + 1) / 2))) (484 + (x + 1) / 2) 1074) (size_at n m z e lo hi p)
    ∙ ap (λ (x : ℕ). odd 53 false (nearest_root x) (484 + (z + 1) / 2) 1074)
    (ap (λ (x : ℕ). x / 4 ^ ((z + 1) / 2)) (scaled_by_four n m z e) ∙ mul-div_cancel (k_of m z * 2 ^ 52) (four_above ((z + 1) / 2))))

-- ---- bringing the digits of n to the top, by s places
pub record Raised (n m s : ℕ) : Type 0 where
  pub value : n * 2 ^ 53 ≡ m * 2 ^ (53 - s)
  pub m_ge : 2 ^ 52 ≤ m
  pub m_lt : m < 2 ^ 53
  pub s_ge : 1 ≤ s
  pub s_le : s ≤ 52

whole : (a b c : ℕ) → a + b ≡ c → 2 ^ a * 2 ^ b ≡ 2 ^ c
whole a b c e = sym (pow-add 2 a b) ∙ ap (λ (x : ℕ). 2 ^ x) e

raised_by : (n j s : ℕ) → j + s ≡ 52 → 1 ≤ s → 2 ^ j ≤ n → n < 2 ^ suc j → Raised n (n * 2 ^ s % 2 ^ 64) s
raised_by n j s e g lo hi =
    let a : 2 ^ j * 2 ^ s ≤ n * 2 ^ s = mul-le-mul_right (2 ^ s) lo in
    let b : n * 2 ^ s < 2 ^ suc j * 2 ^ s = mul-lt-mul_of_pos_right hi (pow_pos s) in
    let low = whole j s 52 e in
    let high = whole (suc j) s 53 (omega arith) in
    let m : n * 2 ^ s ≡ n * 2 ^ s % 2 ^ 64 = omega arith in
    record {
      value =
          sym (mul_assoc n (2 ^ s) (2 ^ (53 - s)) ∙ ap (λ (x : ℕ). n * x) (whole s (53 - s) 53 (omega arith)))
          ∙ ap (λ (x : ℕ). x * 2 ^ (53 - s)) m;
      m_ge = omega arith;
      m_lt = omega arith;
      s_ge = g;
      s_le = omega arith;
    }

-- the s that leaves 11 leading zeros of 64
pub raised : (n : ℕ) → 0 < n → n < 2 ^ 52
    → let s = count_leading_zeros 64 n - 11 in Raised n (n * 2 ^ s % 2 ^ 64) s
raised n h l =
    let t = leading_top 64 n h (omega arith) in
    let u = t.1 in
    let j : t.0 < 52 = power_lt_back t.0 52 (omega arith) in
    raised_by n t.0 (count_leading_zeros 64 n - 11) (omega arith) (omega arith) t.2 t.3
