-- The magnitudes of the values of binary64 in units of 2 ^ -1074: whole numbers of at most 53 digits with zeros behind them. Assumes nothing.
use mathlib.Core.Path.{◌≡◌, refl, sym, ap, ◌∙◌, subst}
use Prim.Native.Nat.{ℕ, zero, suc, ◌+◌, ◌-◌, ◌*◌, ◌^◌, ◌≤◌, ◌<◌}
use native.Mathlib.Nat.{mul_assoc, mul-one, one-mul, suc-mul, mul-le-mul_right, lt_of_mul-lt-mul_right}
use native.Mathlib.Nat.{mul-lt-mul_of_pos_right, lt_of_not-le, le_of_suc-le-suc, lt_irrefl, lt_of_lt_of_le, pow-succ'}
use native.Mathlib.Decide.{dec_le}
use native.Mathlib.Omega.{arith}
use lib.Dec.{lit<}
use lib.Pow.{pow-add, pow_mono, pow_pos, pow-lt}
use lib.Ieee.Positive.{first_pos}

pub record Grid (n : ℕ) : Type 0 where
  pub digits : ℕ
  pub shift : ℕ
  pub is : n ≡ digits * 2 ^ shift
  pub small : digits < 2 ^ 53

pub zero_grid : Grid 0
zero_grid = record { digits = 0; shift = 0; is = refl; small = lit< tt }

pub power_grid : (k : ℕ) → Grid (2 ^ k)
power_grid k = record { digits = 1; shift = k; is = sym (one-mul (2 ^ k)); small = lit< tt }

-- ---- powers of two
pub power_split : (j k : ℕ) → k ≤ j → 2 ^ j ≡ 2 ^ (j - k) * 2 ^ k
power_split j k h = ap (λ (x : ℕ). 2 ^ x) (same j k h) ∙ pow-add 2 (j - k) k
  where
    same : (j k : ℕ) → k ≤ j → j ≡ j - k + k
    same j k h = omega arith

pub power_le_back : (a l : ℕ) → 2 ^ a ≤ 2 ^ l → a ≤ l
power_le_back a l h = le_of_suc-le-suc (lt_of_not-le (λ (g : suc l ≤ a). lt_irrefl (2 ^ l) (lt_of_lt_of_le (pow-lt g) h)))

pub power_lt_back : (a l : ℕ) → 2 ^ a < 2 ^ l → a < l
power_lt_back a l h = lt_of_not-le (λ (g : l ≤ a). lt_irrefl (2 ^ a) (lt_of_lt_of_le h (pow_mono g)))

-- ---- the next values above and below q * 2 ^ k, for a q of 53 digits
-- n is a multiple of 2 ^ k, or below 2 ^ 52 * 2 ^ k
data Place (n k : ℕ) : Type 0 where
  multiple : (a : ℕ) → n ≡ a * 2 ^ k → Place n k
  below : n < 2 ^ 52 * 2 ^ k → Place n k

place : (n k : ℕ) → Grid n → Place n k
place n k g = go (dec_le k g.shift)
  where
    finer : (a j k : ℕ) → a < 2 ^ 53 → j < k → a * 2 ^ j < 2 ^ 52 * 2 ^ k
    finer a j k h l =
        let p : a * 2 ^ j < 2 ^ 53 * 2 ^ j = mul-lt-mul_of_pos_right h (pow_pos j) in
        let r : 2 ^ (j + 1) ≤ 2 ^ k = pow_mono (next j k l) in
        let s : 2 ^ (j + 1) ≡ 2 ^ j * 2 = pow-add 2 j 1 in
        omega arith
      where
        next : (j k : ℕ) → j < k → j + 1 ≤ k
        next j k h = omega arith

    go : Dec (k ≤ g.shift) → Place n k
    go (yes l) =
        multiple (g.digits * 2 ^ (g.shift - k))
        (g.is ∙ ap (λ (x : ℕ). g.digits * x) (power_split g.shift k l) ∙ sym (mul_assoc g.digits (2 ^ (g.shift - k)) (2 ^ k)))
    go (no f) = below (subst (λ (x : ℕ). x < 2 ^ 52 * 2 ^ k) (sym g.is) (finer g.digits g.shift k g.small (lt_of_not-le f)))

pub next_above : (q k n : ℕ) → 2 ^ 52 ≤ q → Grid n → q * 2 ^ k < n → suc q * 2 ^ k ≤ n
next_above q k n lo g h = go (place n k g)
  where
    go : Place n k → suc q * 2 ^ k ≤ n
    go (multiple a e) =
        subst (λ (x : ℕ). suc q * 2 ^ k ≤ x) (sym e) (mul-le-mul_right (2 ^ k) (lt_of_mul-lt-mul_right (2 ^ k) (subst (λ (x : ℕ). q * 2 ^ k < x) e h)))
    go (below l) = let b : 2 ^ 52 * 2 ^ k ≤ q * 2 ^ k = mul-le-mul_right (2 ^ k) lo in absurd (omega arith)

pub next_below : (q k n : ℕ) → 2 ^ 52 < q → Grid n → n < q * 2 ^ k → n + 2 ^ k ≤ q * 2 ^ k
next_below q k n lo g h = go (place n k g)
  where
    go : Place n k → n + 2 ^ k ≤ q * 2 ^ k
    go (multiple a e) =
        let d : suc a * 2 ^ k ≤ q * 2 ^ k = mul-le-mul_right (2 ^ k) (lt_of_mul-lt-mul_right (2 ^ k) (subst (λ (x : ℕ). x < q * 2 ^ k) e h)) in
        let s = suc-mul a (2 ^ k) in
        omega arith
    go (below l) =
        let b : suc (2 ^ 52) * 2 ^ k ≤ q * 2 ^ k = mul-le-mul_right (2 ^ k) lo in
        let s = suc-mul (2 ^ 52) (2 ^ k) in
        omega arith

-- ---- with all 53 digits in use: n = m * 2 ^ z / 2 ^ 53
pub record Top (n : ℕ) : Type 0 where
  pub m : ℕ
  pub z : ℕ
  pub is : n * 2 ^ 53 ≡ m * 2 ^ z
  pub m_ge : 2 ^ 52 ≤ m
  pub m_lt : m < 2 ^ 53
  pub z_ge : 1 ≤ z

record Raised (d a : ℕ) : Type 0 where
  m : ℕ
  by : ℕ
  by_le : by ≤ d
  is : m ≡ a * 2 ^ by
  m_ge : 2 ^ 52 ≤ m
  m_lt : m < 2 ^ 53

raised : (d a : ℕ) → 2 ^ 52 ≤ a * 2 ^ d → a < 2 ^ 53 → Raised d a
raised zero a lo hi = record { m = a; by = 0; by_le = omega arith; is = sym (mul-one a); m_ge = omega (arith, mul-one a); m_lt = hi }
raised (suc d) a lo hi = go (dec_le (2 ^ 52) a) (λ (l : a < 2 ^ 52). raised d (a * 2) (subst (λ (x : ℕ). 2 ^ 52 ≤ x) (sym (twice d)) lo) (room a l))
  where
    room : (a : ℕ) → a < 2 ^ 52 → a * 2 < 2 ^ 53
    room a h = omega arith

    twice : (d : ℕ) → a * 2 * 2 ^ d ≡ a * 2 ^ suc d
    twice d = mul_assoc a 2 (2 ^ d) ∙ ap (λ (x : ℕ). a * x) (sym (pow-succ' 2 d))

    go : Dec (2 ^ 52 ≤ a) → (a < 2 ^ 52 → Raised d (a * 2)) → Raised (suc d) a
    go (yes l) rest = record { m = a; by = 0; by_le = omega arith; is = sym (mul-one a); m_ge = l; m_lt = hi }
    go (no f) rest =
        let r = rest (lt_of_not-le f) in
        record { m = r.m; by = suc r.by; by_le = omega (arith, r.by_le); is = r.is ∙ twice r.by; m_ge = r.m_ge; m_lt = r.m_lt }

pub top_of : (n : ℕ) → 0 < n → Grid n → Top n
top_of n h g =
    let a = g.digits in
    let r = raised 52 a (many a (first_pos a (2 ^ g.shift) (subst (λ (x : ℕ). 0 < x) g.is h))) g.small in
    let c = r.by in
    let z = g.shift + (53 - c) in
    record {
      m = r.m;
      z = z;
      is =
          ap (λ (x : ℕ). x * 2 ^ 53) g.is
          ∙ mul_assoc a (2 ^ g.shift) (2 ^ 53)
          ∙ ap (λ (x : ℕ). a * x) (sym (pow-add 2 g.shift 53) ∙ ap (λ (x : ℕ). 2 ^ x) (sums g.shift c r.by_le) ∙ pow-add 2 c z)
          ∙ sym (mul_assoc a (2 ^ c) (2 ^ z))
          ∙ ap (λ (x : ℕ). x * 2 ^ z) (sym r.is);
      m_ge = r.m_ge;
      m_lt = r.m_lt;
      z_ge = omega (arith, r.by_le);
    }
  where
    many : (a : ℕ) → 0 < a → 2 ^ 52 ≤ a * 2 ^ 52
    many a h = omega arith

    sums : (j c : ℕ) → c ≤ 52 → j + 53 ≡ c + (j + (53 - c))
    sums j c h = omega arith
