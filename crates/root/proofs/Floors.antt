-- The whole part of a root, and the whole number nearest to a root. Assumes nothing.
use Rattle.std.proofs.Common.{◌≡◌, ℕ, zero, suc, ◌+◌, ◌-◌, ◌*◌, ◌/◌, ◌%◌, ◌^◌, ◌<◌, ◌≤◌, Bool, true, false, cond, not, T, ltb, leb, ◌⊎◌, sym, refl, ap, ◌∙◌}
use Rattle.std.proofs.Common.{subst, inl, inr, mul-le-mul_right, suc-mul, le_antisymm, mul-le-mul_left, mul-one, mul-add, arith, ltb→lt, leb→le, nltb→le}
use native.Mathlib.Nat.{pow-succ'}
use lib.Dec.{nleb→lt}
use Rattle.root.specs.Sqrt.{whole_root, nearest_root}
use Rattle.root.proofs.Squares.{next_square, twice_square, twice_next_square}

-- ---- r is the whole part of the root of n
abbrev pub Floor : ℕ → ℕ → Type 0
Floor n r = (r * r ≤ n) × (n < (r + 1) * (r + 1))

floor_step : (n s : ℕ) → Floor (n / 4) s → (b : Bool) → (T b → (2 * s + 1) * (2 * s + 1) ≤ n) → (T (not b) → n < (2 * s + 1) * (2 * s + 1))
    → Floor n (cond b (2 * s + 1) (2 * s))
floor_step n s f true y z =
    let e = next_square (2 * s + 1) in
    let d = twice_next_square s in
    let g = next_square s in
    (y tt, omega arith)
floor_step n s f false y z = let d = twice_square s in (omega arith, z tt)

pub whole_root_floor : (k n : ℕ) → n < 4 ^ k → Floor n (whole_root k n)
unfolding whole_root
whole_root_floor zero n h = (omega arith, omega arith)
whole_root_floor (suc k) n h =
    let s = whole_root k (n / 4) in
    floor_step n s (whole_root_floor k (n / 4) (let p = pow-succ' 4 k in omega arith)) (leb ((2 * s + 1) * (2 * s + 1)) n)
    (leb→le ((2 * s + 1) * (2 * s + 1)) n) (nleb→lt ((2 * s + 1) * (2 * s + 1)) n)

-- ---- q is the whole number nearest to the root of w: (2 q - 1) ^ 2 < 4 w < (2 q + 1) ^ 2
abbrev pub Nearest : ℕ → ℕ → Type 0
Nearest w q = (q * q < w + q) × (w ≤ q * q + q)

nearest_le : (w a b : ℕ) → Nearest w a → Nearest w b → a ≤ b
nearest_le w a b p q = unless (λ (h : b < a).
    let k : b * a + a ≤ a * a = (rw (sym (suc-mul b a)) (mul-le-mul_right a h)) in
    let l : b * (b + 1) ≤ b * a = mul-le-mul_left b (up h) in
    let e : b * (b + 1) ≡ b * b + b = mul-add b b 1 ∙ ap (λ (x : ℕ). b * b + x) (mul-one b) in
    omega arith)
  where
    up : b < a → b + 1 ≤ a
    up h = omega arith

    unless : (b < a → ⊥) → a ≤ b
    unless f = omega arith

pub nearest_unique : (w a b : ℕ) → Nearest w a → Nearest w b → a ≡ b
nearest_unique w a b p q = le_antisymm (nearest_le w a b p q) (nearest_le w b a q p)

pub nearest_root_lem : (w : ℕ) → 0 < w → w < 4 ^ 53 → Nearest w (nearest_root w)
unfolding nearest_root
nearest_root_lem w h l =
    let r = whole_root 53 w in
    go r (whole_root_floor 53 w l) (ltb ((2 * r + 1) * (2 * r + 1)) (4 * w)) (ltb→lt ((2 * r + 1) * (2 * r + 1)) (4 * w))
    (nltb→le ((2 * r + 1) * (2 * r + 1)) (4 * w))
  where
    strict : (r : ℕ) → r * r ≤ w → r * r < w + r
    strict zero g = omega arith
    strict (suc r) g = omega arith

    go : (r : ℕ) → Floor w r → (b : Bool) → (T b → (2 * r + 1) * (2 * r + 1) < 4 * w) → (T (not b) → 4 * w ≤ (2 * r + 1) * (2 * r + 1))
        → Nearest w (cond b (r + 1) r)
    go r f true y z =
        let a = y tt in
        let e = twice_next_square r in
        let n = next_square r in
        (omega arith, omega arith)
    go r f false y z =
        let a = z tt in
        let e = twice_next_square r in
        (strict r f.0, omega arith)

-- from the whole part of the root of 4 w
pub nearest_of_floor : (w r : ℕ) → 0 < w → Floor (w * 4) r → Nearest w ((r + 1) / 2)
nearest_of_floor w r h f = go (r / 2) (parity (r % 2) refl)
  where
    parity : (d : ℕ) → r % 2 ≡ d → (r ≡ 2 * (r / 2)) ⊎ (r ≡ 2 * (r / 2) + 1)
    parity zero e = inl (omega arith)
    parity (suc d) e = inr (omega arith)

    go : (s : ℕ) → (r ≡ 2 * s) ⊎ (r ≡ 2 * s + 1) → Nearest w ((r + 1) / 2)
    go s (inl e) =
        let q : (r + 1) / 2 ≡ s = omega arith in
        let d = ap (λ (x : ℕ). x * x) e ∙ twice_square s in
        let n = next_square r in
        let p : 0 < s = above (λ (g : s ≡ 0). let z : s * s ≡ 0 = ap (λ (x : ℕ). x * x) g in omega arith) in
        subst (λ (x : ℕ). Nearest w x) (sym q) (omega arith, omega arith)
      where
        above : (s ≡ 0 → ⊥) → 0 < s
        above h = omega arith
    go s (inr e) =
        let q : (r + 1) / 2 ≡ s + 1 = omega arith in
        let d = ap (λ (x : ℕ). x * x) e ∙ twice_next_square s in
        let n = next_square r in
        let n' = next_square s in
        subst (λ (x : ℕ). Nearest w x) (sym q) (omega arith, omega arith)

-- ---- w = k * 2 ^ 52, with a k of 53 or 54 digits, has a root of 53 digits
nearest_ge : (k q : ℕ) → 2 ^ 52 ≤ k → Nearest (k * 2 ^ 52) q → 2 ^ 52 ≤ q
nearest_ge k q h p = unless (λ (l : q < 2 ^ 52). let a : q * q ≤ (2 ^ 52 - 1) * q = mul-le-mul_right q (less l) in omega arith)
  where
    less : q < 2 ^ 52 → q ≤ 2 ^ 52 - 1
    less l = omega arith

    unless : (q < 2 ^ 52 → ⊥) → 2 ^ 52 ≤ q
    unless f = omega arith

nearest_lt : (k q : ℕ) → k + 2 ≤ 2 ^ 54 → Nearest (k * 2 ^ 52) q → q < 2 ^ 53
nearest_lt k q h p = unless (λ (l : 2 ^ 53 ≤ q). let a : 2 ^ 53 * q ≤ q * q = mul-le-mul_right q l in omega arith)
  where
    unless : (2 ^ 53 ≤ q → ⊥) → q < 2 ^ 53
    unless f = omega arith

pub root_digits : (k : ℕ) → 2 ^ 52 ≤ k → k + 2 ≤ 2 ^ 54 → (2 ^ 52 ≤ nearest_root (k * 2 ^ 52)) × (nearest_root (k * 2 ^ 52) < 2 ^ 53)
root_digits k lo hi =
    let n = nearest_root_lem (k * 2 ^ 52) (omega arith) (omega arith) in
    (nearest_ge k (nearest_root (k * 2 ^ 52)) lo n, nearest_lt k (nearest_root (k * 2 ^ 52)) hi n)

pub floor_lt : (k r : ℕ) → k < 2 ^ 54 → Floor (k * 2 ^ 54) r → r < 2 ^ 54
floor_lt k r h f = unless (λ (l : 2 ^ 54 ≤ r). let a : 2 ^ 54 * r ≤ r * r = mul-le-mul_right r l in omega arith)
  where
    unless : (2 ^ 54 ≤ r → ⊥) → r < 2 ^ 54
    unless f = omega arith

-- what a search for the nearest root finds is the nearest root
pub found : (k q : ℕ) → 2 ^ 52 ≤ k → k < 2 ^ 54 → Nearest (k * 2 ^ 52) q → q ≡ nearest_root (k * 2 ^ 52)
found k q h l p = nearest_unique (k * 2 ^ 52) q (nearest_root (k * 2 ^ 52)) p (nearest_root_lem (k * 2 ^ 52) (omega arith) (omega arith))

pub found_by_digits : (k r : ℕ) → 2 ^ 52 ≤ k → k < 2 ^ 54 → Floor (k * 2 ^ 54) r → (r + 1) / 2 ≡ nearest_root (k * 2 ^ 52)
found_by_digits k r h l f = found k ((r + 1) / 2) h l (nearest_of_floor (k * 2 ^ 52) r (omega arith) (subst (λ (n : ℕ). Floor n r) (quarter k) f))
  where
    quarter : (k : ℕ) → k * 2 ^ 54 ≡ k * 2 ^ 52 * 4
    quarter k = omega arith
