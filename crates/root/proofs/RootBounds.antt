-- A bound goes through the root, from below and from above. Assumes nothing.
use Rattle.std.proofs.Common.{◌≡◌, ℕ, zero, suc, ◌*◌, ◌^◌, ◌<◌, ◌≤◌, true, false, T, sym, refl, true≢false, zero-le, le_trans, le_of_eq, mul-le-mul_right}
use Rattle.std.proofs.Common.{zero-lt-suc, zero-mul, le_of_mul-le-mul_right, lt-ltb}
use lib.Ieee.{Float, nan, inf, fin, binary64, up, down, fits}
use lib.Ieee.Exact.{HasValue}
use lib.Ieee.Fits.{down_pos}
use Rattle.refusal.specs.Answers.{given}
use Rattle.float64.specs.Units.{units_of}
use Rattle.float64.proofs.Grid.{Grid}
use Rattle.float64.proofs.Order.{value_of}
use Rattle.float64.proofs.Bounds.{AtMost, AtLeast}
use Rattle.float64.proofs.FiniteBounds.{at_least_not_zero}
use Rattle.root.specs.Sqrt.{sqrt_of}
use Rattle.root.proofs.RootUnits.{rooted_ge, rooted_le}
use Rattle.root.proofs.CorrectRounding.{root_of_lem}

-- ---- from below
of_value : (P : ℕ) (x : Float) (n : ℕ) → HasValue x false n (2 ^ 1074) → P ≤ n → AtLeast P x
of_value P nan n v h = absurd v
of_value P (inf s) n v h = absurd v
of_value P (fin s m e) n v h = (v.0, le_trans (mul-le-mul_right (down e) h) (le_of_eq (sym v.1)))

-- P * P units of 2 ^ -2148 are at most Q units of 2 ^ -1074
pub root_at_least : (P Q : ℕ) → Grid P → 0 < Q → P * P ≤ Q * 2 ^ 1074 → (x : Float) → T (fits binary64 x) → AtLeast Q x
    → (r : Float) × (sqrt_of x ≡ given r) × AtLeast P r
root_at_least P Q g above square nan t h = absurd h
root_at_least P Q g above square (inf true) t h = absurd (true≢false h)
root_at_least P Q g above square (inf false) t h = (inf false, (unfold sqrt_of in refl), refl)
root_at_least P Q g above square (fin true m e) t h = absurd (true≢false h.0)
root_at_least P Q g above square (fin false zero e) t h = absurd (true≢false (at_least_not_zero Q above (fin false zero e) h))
root_at_least P Q g above square (fin false (suc m) e) t h =
    let x = fin false (suc m) e in
    let w = root_of_lem x (lt-ltb 0 (suc m) (zero-lt-suc m)) t in
    let u : Q ≤ units_of x = le_of_mul-le-mul_right (le_trans h.1 (le_of_eq (value_of x w.1.value).1)) (down_pos e) in
    let r = w.0 in (
      r,
      w.1.is,
      of_value P r (units_of r) (value_of r w.1.root)
          (rooted_ge (units_of x) (units_of r) P w.1.rooted g (le_trans square (mul-le-mul_right (2 ^ 1074) u))),
    )

-- ---- from above
up_to_value : (P : ℕ) (x : Float) (n : ℕ) → HasValue x false n (2 ^ 1074) → n ≤ P → AtMost P x
up_to_value P nan n v h = absurd v
up_to_value P (inf s) n v h = absurd v
up_to_value P (fin s m e) n v h = le_trans (le_of_eq v.1) (mul-le-mul_right (down e) h)

-- Q units of 2 ^ -1074 are at most P * P units of 2 ^ -2148
pub root_at_most : (P Q : ℕ) → Grid P → Q * 2 ^ 1074 ≤ P * P → (x : Float) → T (fits binary64 x) → AtLeast 0 x → AtMost Q x
    → (r : Float) × (sqrt_of x ≡ given r) × AtMost P r
root_at_most P Q g square nan t s h = absurd h
root_at_most P Q g square (inf b) t s h = absurd h
root_at_most P Q g square (fin true m e) t s h = absurd (true≢false s.0)
root_at_most P Q g square (fin false zero e) t s h =
    let none : 0 * up e * 2 ^ 1074 ≡ 0 = rw (zero-mul (up e)) (zero-mul (2 ^ 1074)) in
    (fin false zero e, (unfold sqrt_of in refl), le_trans (le_of_eq none) zero-le)
root_at_most P Q g square (fin false (suc m) e) t s h =
    let x = fin false (suc m) e in
    let w = root_of_lem x (lt-ltb 0 (suc m) (zero-lt-suc m)) t in
    let u : units_of x ≤ Q = le_of_mul-le-mul_right (le_trans (le_of_eq (sym (value_of x w.1.value).1)) h) (down_pos e) in
    let r = w.0 in (
      r,
      w.1.is,
      up_to_value P r (units_of r) (value_of r w.1.root)
          (rooted_le (units_of x) (units_of r) P w.1.rooted g (le_trans (mul-le-mul_right (2 ^ 1074) u) square)),
    )
