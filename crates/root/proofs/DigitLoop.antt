-- The root of k * 2 ^ 54, a binary digit a turn. Assumes nothing.
use Rattle.std.proofs.Common.{◌≡◌, ℕ, ◌+◌, ◌-◌, ◌*◌, ◌/◌, ◌%◌, ◌^◌, ◌<◌, ◌≤◌, sym, ap, ◌∙◌, mul_assoc, mul_comm, one-mul, add-one, arith, pow_mono}
use native.Mathlib.Nat.{pow-succ'}
use Rattle.root.proofs.Squares.{next_square, twice_square, twice_next_square}
use Rattle.root.proofs.Floors.{Floor}

-- After i digits: the root so far, what is left over, and the digits of k that are left, at the top of 64.
pub record At (k left rest root i : ℕ) : Type 0 where
  pub turn : i ≤ 54
  pub left_lt : left < 2 ^ 64
  pub rest_le : rest ≤ 2 * root
  pub root_lt : root < 2 ^ i
  pub root_max : root < 2 ^ 54
  pub value : 4 ^ i * k * 1024 ≡ (root * root + rest) * 2 ^ 64 + left

pub start : (k : ℕ) → k < 2 ^ 54 → At k (k * 1024) 0 0 0
start k h = record { turn = omega arith; left_lt = omega arith; rest_le = omega arith; root_lt = omega arith; root_max = omega arith; value = omega (arith, one-mul k) }

two_next : (i : ℕ) → 2 ^ (i + 1) ≡ 2 * 2 ^ i
two_next i = ap (λ (x : ℕ). 2 ^ x) (add-one i) ∙ pow-succ' 2 i

four_next : (k i : ℕ) → 4 ^ (i + 1) * k ≡ 4 * (4 ^ i * k)
four_next k i = ap (λ (x : ℕ). x * k) (ap (λ (x : ℕ). 4 ^ x) (add-one i) ∙ pow-succ' 4 i) ∙ mul_assoc 4 (4 ^ i) k

module _ (k left rest root i : ℕ) (a : At k left rest root i) (h : i < 54) where
  -- a digit 1
  pub taken : (rest' root' : ℕ) → root * 4 + 1 ≤ rest * 4 + left / 2 ^ 62 → rest' ≡ rest * 4 + left / 2 ^ 62 - (root * 4 + 1) → root' ≡ root * 2 + 1
      → At k (left % 2 ^ 62 * 4) rest' root' (i + 1)
  taken rest' root' t p q =
      let e = two_next i in
      let f = four_next k i in
      let s : root' * root' ≡ 4 * (root * root) + 4 * root + 1 = ap (λ (x : ℕ). x * x) (q ∙ ap (λ (x : ℕ). x + 1) (mul_comm root 2)) ∙ twice_next_square root in
      let j : i + 1 ≤ 54 = omega arith in
      let m = pow_mono j in
      record { turn = omega arith; left_lt = omega arith; rest_le = omega arith; root_lt = omega arith; root_max = omega arith; value = omega arith }

  -- a digit 0
  pub passed : (rest' root' : ℕ) → rest * 4 + left / 2 ^ 62 < root * 4 + 1 → rest' ≡ rest * 4 + left / 2 ^ 62 → root' ≡ root * 2
      → At k (left % 2 ^ 62 * 4) rest' root' (i + 1)
  passed rest' root' t p q =
      let e = two_next i in
      let f = four_next k i in
      let s : root' * root' ≡ 4 * (root * root) = ap (λ (x : ℕ). x * x) (q ∙ mul_comm root 2) ∙ twice_square root in
      let j : i + 1 ≤ 54 = omega arith in
      let m = pow_mono j in
      record { turn = omega arith; left_lt = omega arith; rest_le = omega arith; root_lt = omega arith; root_max = omega arith; value = omega arith }

pub done : {k left rest root i : ℕ} → At k left rest root i → 54 ≤ i → Floor (k * 2 ^ 54) root
done {k} {left} {rest} {root} {i} a h =
    let e : i ≡ 54 = omega arith in
    let v : 4 ^ 54 * k * 1024 ≡ (root * root + rest) * 2 ^ 64 + left = ap (λ (x : ℕ). 4 ^ x * k * 1024) (sym e) ∙ a.value in
    let n = whole (k * 2 ^ 54) (root * root + rest) left (scale k ∙ v) a.left_lt in
    let s = next_square root in
    (omega arith, omega arith)
  where
    whole : (n s left : ℕ) → n * 2 ^ 64 ≡ s * 2 ^ 64 + left → left < 2 ^ 64 → n ≡ s
    whole n s left e h = omega arith

    scale : (k : ℕ) → k * 2 ^ 54 * 2 ^ 64 ≡ 4 ^ 54 * k * 1024
    scale k = omega arith
