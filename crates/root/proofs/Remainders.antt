-- Which of q - 1, q and q + 1 is the whole number nearest to the root of w, by what is left of w. Assumes nothing.
use Rattle.std.proofs.Common.{◌≡◌, ℕ, ◌+◌, ◌-◌, ◌*◌, ◌%◌, ◌^◌, ◌<◌, ◌≤◌, Bool, true, false, not, T, ltb, subst, arith, ltb→lt, nltb→le}
use Rattle.std.specs.Bool.{then_some}
use Rattle.std.specs.Option.{IfSome}
use mir.Val.{bool_byte}
use Rattle.root.proofs.Squares.{next_square, previous_square}
use Rattle.root.proofs.Floors.{Nearest}

-- a difference that did not wrap
pub unwrapped : (a b : ℕ) → a < 2 ^ 64 → b ≤ 2 ^ 64 → (a + (2 ^ 64 - b)) % 2 ^ 64 + b < 2 ^ 64 → (a + (2 ^ 64 - b)) % 2 ^ 64 + b ≡ a
unwrapped a b h k l = omega arith

pub some_if : (P : ℕ → Type 0) (b : Bool) (x : ℕ) → (T b → P x) → IfSome (then_some b x) P
some_if P true x f = f tt
some_if P false x f = tt

module _ (w q left : ℕ) (e : left + q * q ≡ w + 3 * q) where
  above : q * 4 < left → left ≤ q * 6 + 2 → Nearest w (q + 1)
  above h k = let s = next_square q in (omega arith, omega arith)

  below : 1 ≤ q → 2 < left → left ≤ q * 2 → Nearest w (q - 1)
  below p h k = let s = previous_square q p in (omega arith, omega arith)

  there : q * 2 < left → left ≤ q * 4 → Nearest w q
  there h k = (omega arith, omega arith)

  pub settled : 1 ≤ q → 2 < left → left ≤ q * 6 + 2 → Nearest w (q - 1 + bool_byte (ltb (q * 2) left) + bool_byte (ltb (q * 4) left))
  settled p h k = go (ltb (q * 2) left) (ltb (q * 4) left) (ltb→lt (q * 2) left) (nltb→le (q * 2) left) (ltb→lt (q * 4) left) (nltb→le (q * 4) left)
    where
      go : (a b : Bool) → (T a → q * 2 < left) → (T (not a) → left ≤ q * 2) → (T b → q * 4 < left) → (T (not b) → left ≤ q * 4)
          → Nearest w (q - 1 + bool_byte a + bool_byte b)
      go true true a a' b b' = let u : q + 1 ≡ q - 1 + 1 + 1 = omega arith in subst (λ (x : ℕ). Nearest w x) u (above (b tt) k)
      go true false a a' b b' = let u : q ≡ q - 1 + 1 + 0 = omega arith in subst (λ (x : ℕ). Nearest w x) u (there (a tt) (b' tt))
      go false false a a' b b' = let u : q - 1 ≡ q - 1 + 0 + 0 = omega arith in subst (λ (x : ℕ). Nearest w x) u (below p h (a' tt))
      go false true a a' b b' = let l = a' tt in let m = b tt in absurd (omega arith)
