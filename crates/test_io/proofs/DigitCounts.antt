-- How many digits a number takes at most. Assumes nothing.
use Prim.Native.Nat.{ℕ, ◌-◌, ◌^◌, ◌≤◌, ◌<◌}
use native.Mathlib.Nat.{pow-le-pow_right}
use native.Mathlib.Omega.{arith}
use Rattle.test_io.specs.Digits.{IsDigitCount}

-- where `most` digits hold n, the fewest are no more
pub digit_count_le : (b width n k most : ℕ) → 0 < b → IsDigitCount b width n k → width ≤ most → n < b ^ most → k ≤ most
digit_count_le b width n k most h fewest within holds = unless (λ (over : most < k).
    let least : b ^ (k - 1) ≤ n = fewest.2 (omega arith) in
    let more : b ^ most ≤ b ^ (k - 1) = pow-le-pow_right h (omega arith) in
    omega arith)
  where
    unless : (most < k → ⊥) → k ≤ most
    unless f = omega arith
