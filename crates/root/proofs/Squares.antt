-- Identities and bounds on squares of whole numbers. Assumes nothing.
use Rattle.std.proofs.Common.{◌≡◌, ℕ, ◌+◌, ◌-◌, ◌*◌, ◌/◌, ◌%◌, ◌^◌, ◌<◌, ◌≤◌, ap, ◌∙◌, lt_of_le_of_lt, le_of_lt, mul_comm, add-mul, mul-le-mul}
use Rattle.std.proofs.Common.{mul-le-mul_left, mul-lt-mul_of_pos_right, mul-add, mul_right_comm, arith}
use native.Mathlib.Nat.{mul-mul-mul_comm}

pub next_square : (a : ℕ) → (a + 1) * (a + 1) ≡ a * a + 2 * a + 1
next_square a =
    let e : (a + 1) * (a + 1) ≡ a * a + a * 1 + (1 * a + 1 * 1) =
    add-mul a 1 (a + 1) ∙ ap (λ (x : ℕ). x + 1 * (a + 1)) (mul-add a a 1) ∙ ap (λ (x : ℕ). a * a + a * 1 + x) (mul-add 1 a 1) in
    omega arith

pub previous_square : (a : ℕ) → 1 ≤ a → a * a ≡ (a - 1) * (a - 1) + 2 * (a - 1) + 1
previous_square a h = ap (λ (x : ℕ). x * x) (back a h) ∙ next_square (a - 1)
  where
    back : (a : ℕ) → 1 ≤ a → a ≡ a - 1 + 1
    back a h = omega arith

pub twice_square : (a : ℕ) → 2 * a * (2 * a) ≡ 4 * (a * a)
twice_square a = mul-mul-mul_comm 2 a 2 a

pub twice_next_square : (a : ℕ) → (2 * a + 1) * (2 * a + 1) ≡ 4 * (a * a) + 4 * a + 1
twice_next_square a = omega (arith, next_square (2 * a), twice_square a)

pub square_le : (a b : ℕ) → a ≤ b → a * a ≤ b * b
square_le a b h = mul-le-mul h h

pub square_lt : (a b : ℕ) → a < b → a * a < b * b
square_lt a b h = lt_of_le_of_lt (mul-le-mul_left a (le_of_lt h)) (mul-lt-mul_of_pos_right h (above a b h))
  where
    above : (a b : ℕ) → a < b → 0 < b
    above a b h = omega arith

pub square_unique : (a b : ℕ) → a * a ≡ b * b → a ≡ b
square_unique a b e = unless (λ (h : a < b). let l = square_lt a b h in omega arith) (λ (h : b < a). let l = square_lt b a h in omega arith)
  where
    unless : (a < b → ⊥) → (b < a → ⊥) → a ≡ b
    unless f g = omega arith

-- ---- by halves of 27 digits
square_of : (a b : ℕ) → (a * 2 ^ 27 + b) * (a * 2 ^ 27 + b) ≡ a * a * 2 ^ 54 + a * b * 2 ^ 28 + b * b
square_of a b =
    let x = a * 2 ^ 27 in
    let e : (x + b) * (x + b) ≡ x * x + x * b + (b * x + b * b) =
    add-mul x b (x + b) ∙ ap (λ (y : ℕ). y + b * (x + b)) (mul-add x x b) ∙ ap (λ (y : ℕ). x * x + x * b + y) (mul-add b x b) in
    let p : x * x ≡ a * a * 2 ^ 54 = mul-mul-mul_comm a (2 ^ 27) a (2 ^ 27) in
    let q : x * b ≡ a * b * 2 ^ 27 = mul_right_comm a (2 ^ 27) b in
    let r : b * x ≡ a * b * 2 ^ 27 = mul_comm b x ∙ q in
    omega arith

pub split_square : (q : ℕ) → q * q ≡ q / 2 ^ 27 * (q / 2 ^ 27) * 2 ^ 54 + q / 2 ^ 27 * (q % 2 ^ 27) * 2 ^ 28 + q % 2 ^ 27 * (q % 2 ^ 27)
split_square q = ap (λ (x : ℕ). x * x) (whole q) ∙ square_of (q / 2 ^ 27) (q % 2 ^ 27)
  where
    whole : (q : ℕ) → q ≡ q / 2 ^ 27 * 2 ^ 27 + q % 2 ^ 27
    whole q = omega arith

pub product_le : (a b : ℕ) → a < 2 ^ 27 → b < 2 ^ 27 → a * b ≤ 2 ^ 54
product_le a b h k = mul-le-mul {n₂ = 2 ^ 27} {m₂ = 2 ^ 27} (le_of_lt h) (le_of_lt k)

pub split_le : (q : ℕ) → q < 2 ^ 53 → (q / 2 ^ 27 * (q / 2 ^ 27) ≤ 2 ^ 54) × (q / 2 ^ 27 * (q % 2 ^ 27) ≤ 2 ^ 54) × (q % 2 ^ 27 * (q % 2 ^ 27) ≤ 2 ^ 54)
split_le q h =
    let a : q / 2 ^ 27 < 2 ^ 27 = omega arith in
    let b : q % 2 ^ 27 < 2 ^ 27 = omega arith in
    (product_le (q / 2 ^ 27) (q / 2 ^ 27) a a, product_le (q / 2 ^ 27) (q % 2 ^ 27) a b, product_le (q % 2 ^ 27) (q % 2 ^ 27) b b)
