-- Whether a root is exact, by its digits and by the leading half of them. Assumes nothing.
use Rattle.std.proofs.Common.{◌≡◌, ℕ, zero, suc, ◌+◌, ◌*◌, ◌/◌, ◌%◌, ◌^◌, ◌<◌, ◌≤◌, Bool, true, false, eqb, sym, refl, ap, ◌∙◌, subst, mul_assoc, mul-one}
use Rattle.std.proofs.Common.{arith, eq-eqb, ne_eqb, eqb-true}
use native.Mathlib.Nat.{mul-mul-mul_comm, pow-succ'}
use borrow.Author.Tests.{eqb-false}
use lib.Ieee.{odd}
use Rattle.float64.specs.Units.{units_of}
use Rattle.float64.proofs.Patterns.{odd_units}
use Rattle.root.specs.Sqrt.{nearest_root}
use Rattle.root.specs.Exact.{exact_units, root_of_units}
use Rattle.root.specs.declared.Root.{Root}
use Rattle.root.proofs.Squares.{twice_square, twice_next_square}
use Rattle.root.proofs.Floors.{found}
use Rattle.root.proofs.Scales.{k_of, digits_of, root_units_at}
use Rattle.root.proofs.RootUnits.{exact_at}

-- two tests for one fact
pub same_test : (a b c d : ℕ) → (a ≡ b → c ≡ d) → (c ≡ d → a ≡ b) → eqb a b ≡ eqb c d
same_test a b c d f g = go (eqb a b) refl
  where
    go : (t : Bool) → eqb a b ≡ t → t ≡ eqb c d
    go true e = sym (eq-eqb c d (f (eqb-true a b e)))
    go false e = sym (ne_eqb c d (λ h. eqb-false a b e (g h)))

-- ---- by the leading half of the digits
-- a number whose square is four times another is even
half_square : (q k : ℕ) → q * q ≡ k * 4 → (q ≡ q / 2 * 2) × (q / 2 * (q / 2) ≡ k)
half_square q k e = go (q % 2) refl
  where
    go : (d : ℕ) → q % 2 ≡ d → (q ≡ q / 2 * 2) × (q / 2 * (q / 2) ≡ k)
    go zero h =
        let w : q ≡ 2 * (q / 2) = omega arith in
        let s = ap (λ (x : ℕ). x * x) w ∙ twice_square (q / 2) in
        (omega arith, omega arith)
    go (suc d) h =
        let w : q ≡ 2 * (q / 2) + 1 = omega arith in
        let s = ap (λ (x : ℕ). x * x) w ∙ twice_next_square (q / 2) in
        absurd (omega arith)

root_part : (j q k : ℕ) → q * q ≡ k * 4 ^ j → (c : ℕ) × ((q ≡ c * 2 ^ j) × (c * c ≡ k))
root_part zero q k e = (q, (sym (mul-one q), e ∙ mul-one k))
root_part (suc j) q k e =
    let i = root_part j q (k * 4) (e ∙ ap (λ (x : ℕ). k * x) (pow-succ' 4 j) ∙ sym (mul_assoc k 4 (4 ^ j))) in
    let h = half_square i.0 k i.1.1 in
    (i.0 / 2, (i.1.0 ∙ ap (λ (x : ℕ). x * 2 ^ j) h.0 ∙ mul_assoc (i.0 / 2) 2 (2 ^ j) ∙ ap (λ (x : ℕ). i.0 / 2 * x) (sym (pow-succ' 2 j)), h.1))

-- q, the whole number nearest to the root of k * 2 ^ 52, is that root exactly where k is the square of q / 2 ^ 26
pub leading_half : (k q : ℕ) → 2 ^ 52 ≤ k → k < 2 ^ 54 → q ≡ nearest_root (k * 2 ^ 52) → eqb (q / 2 ^ 26 * (q / 2 ^ 26)) k ≡ eqb (q * q) (k * 2 ^ 52)
leading_half k q lo hi n = same_test (q / 2 ^ 26 * (q / 2 ^ 26)) k (q * q) (k * 2 ^ 52) (whole (q / 2 ^ 26)) back
  where
    above : (a : ℕ) → 2 ^ 52 ≤ a * a → 0 < a
    above zero h = absurd (omega arith)
    above (suc a) h = omega arith

    whole : (a : ℕ) → a * a ≡ k → q * q ≡ k * 2 ^ 52
    whole a e =
        let s : a * 2 ^ 26 * (a * 2 ^ 26) ≡ k * 2 ^ 52 = mul-mul-mul_comm a (2 ^ 26) a (2 ^ 26) ∙ ap (λ (x : ℕ). x * 2 ^ 52) e in
        let p : 0 < a = above a (subst (λ (x : ℕ). 2 ^ 52 ≤ x) (sym e) lo) in
        let f : a * 2 ^ 26 ≡ q = found k (a * 2 ^ 26) lo hi (omega arith, omega arith) ∙ sym n in
        ap (λ (x : ℕ). x * x) (sym f) ∙ s

    leading : (c : ℕ) → q ≡ c * 2 ^ 26 → q / 2 ^ 26 ≡ c
    leading c h = omega arith

    back : q * q ≡ k * 2 ^ 52 → q / 2 ^ 26 * (q / 2 ^ 26) ≡ k
    back e =
        let r = root_part 26 q k e in
        ap (λ (x : ℕ). x * x) (leading r.0 r.1.0) ∙ r.1.1

-- ---- by units
pub exact_units_at : (n m z : ℕ) → n * 2 ^ 53 ≡ m * 2 ^ z → 2 ^ 52 ≤ m → m < 2 ^ 53 → 1 ≤ z
    → eqb (digits_of m z * digits_of m z) (k_of m z * 2 ^ 52) ≡ exact_units n
unfolding exact_units
exact_units_at n m z e lo hi p =
    let q = digits_of m z in
    let k = 484 + (z + 1) / 2 in
    let d = exact_at n (record { m = m; z = z; is = e; m_ge = lo; m_lt = hi; z_ge = p }) in
    same_test (q * q) (k_of m z * 2 ^ 52) (q * 2 ^ k * (q * 2 ^ k)) (n * 2 ^ 1074) d.0 d.1
    ∙ ap (λ (x : ℕ). eqb (x * x) (n * 2 ^ 1074)) (sym (odd_units q k) ∙ ap units_of (root_units_at n m z e lo hi p))

-- the root of n units with its exactness, from its digits
pub root_at : (n m z : ℕ) → n * 2 ^ 53 ≡ m * 2 ^ z → 2 ^ 52 ≤ m → m < 2 ^ 53 → 1 ≤ z → (r : Root)
    → r.value ≡ odd 53 false (digits_of m z) (484 + (z + 1) / 2) 1074 → r.exact ≡ eqb (digits_of m z * digits_of m z) (k_of m z * 2 ^ 52) → r ≡ root_of_units n
root_at n m z e lo hi p r f g = rw (sym (root_units_at n m z e lo hi p), sym (exact_units_at n m z e lo hi p), sym f, sym g)
