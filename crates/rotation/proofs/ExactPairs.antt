-- Which pairs have exact roots: every still pair counts as one, and none whose t isn't a number; otherwise it is by both roots. Assumes nothing.
use mathlib.Core.Path.{◌≡◌, refl, sym, ap, ◌∙◌, subst}
use mathlib.Core.Bool.{Bool, true, false, cond, ◌&&◌, true≢false}
use Prim.Native.Nat.{◌^◌, zero-le}
use native.Mathlib.Nat.{le_refl, le_trans, le_of_eq, zero-mul}
use lib.Dec.{lit<, lit≤}
use lib.Ieee.{Float, nan, inf, fin, binary64, down, neg, add, mul, lt, is_nan, of_bits}
use lib.Ieee.Fits.{add-fits}
use Rattle.float64.specs.Values.{plus_zero, one, finite, is_zero, magnitude}
use Rattle.float64.proofs.Grid.{power_grid}
use Rattle.float64.proofs.Zeros.{equal_zero}
use Rattle.float64.proofs.Operands.{sum_operands}
use Rattle.float64.proofs.Bounds.{AtMost, Number, bounded_number, add_at_most}
use Rattle.float64.proofs.FiniteBounds.{magnitude_at_most, at_least_less, at_least_not_zero, finite_at_most, square_operand, div_at_least}
use Rattle.root.specs.Exact.{exact_root}
use Rattle.root.proofs.ExactRoots.{exact_infinity}
use Rattle.root.proofs.RootBounds.{root_at_most}
use Rattle.rotation.specs.declared.Parameters.{Parameters}
use Rattle.rotation.specs.declared.Parameters.TheVariants.{Still, Turn}
use Rattle.rotation.specs.Rotation.{root_of, signum, tangent_of, quotient, of_tangent, of_pair}
use Rattle.rotation.specs.Exact.{under_root, exact_pair}
use Rattle.rotation.proofs.ParameterCases.{other_tangent, by_tangent, tangent_nan}
use Rattle.rotation.proofs.RootsFound.{zero_exact, other_pair_exact}
use Rattle.rotation.proofs.FiniteOperands.{is_still, turns}
use Rattle.rotation.proofs.TurnBounds.{FromOne, under_root_from, given_root}

-- ---- where 1 + ξ * ξ is finite, |ξ| and the root are at most 2 ^ 512, and 1 by their sum is not zero
module _ (ξ : Float) where
  signum_from : FromOne (magnitude (signum ξ))
  unfolding signum neg of_bits
  signum_from = go (lt ξ plus_zero)
    where
      go : (b : Bool) → FromOne (magnitude (cond b (neg one) one))
      go true = (refl, lit≤ tt)
      go false = (refl, lit≤ tt)

  root_up_to : Number ξ → finite (under_root ξ) ≡ true → AtMost (2 ^ 1586) (root_of (under_root ξ))
  root_up_to h f =
      let x = under_root ξ in
      let t = add-fits binary64 one (mul binary64 ξ ξ) in
      let unsigned = at_least_less 0 (2 ^ 1074) zero-le x (under_root_from ξ h) in
      let w = root_at_most (2 ^ 1586) (2 ^ 2098) (power_grid 1586) (le_refl _) x t unsigned (finite_at_most x f t) in
      subst (AtMost (2 ^ 1586)) (given_root x w.0 w.1) w.2

  finite_turns : finite (under_root ξ) ≡ true → is_zero (tangent_of ξ) ≡ false
  unfolding tangent_of
  finite_turns f =
      let h = square_operand ξ (sum_operands one (mul binary64 ξ ξ) f).1 in
      let most = add_at_most (2 ^ 1586) (2 ^ 1586) (power_grid 1587) (lit< tt) (magnitude ξ) (root_of (under_root ξ)) (magnitude_at_most (2 ^ 1586) ξ h)
      (root_up_to (bounded_number (2 ^ 1586) ξ h) f) in
      at_least_not_zero 1 (lit< tt) (tangent_of ξ)
      (div_at_least (2 ^ 1074) (2 ^ 1587) 1 (power_grid 0) (lit< tt) (signum ξ) (add binary64 (magnitude ξ) (root_of (under_root ξ))) (lit< tt) (lit≤ tt)
      signum_from most)

-- ---- where it is not finite it is +infinity, or ξ isn't a number
infinite_exact : (x : Float) → FromOne x → finite x ≡ false → exact_root x ≡ true
unfolding finite
infinite_exact nan h f = absurd h
infinite_exact (inf s) h f = ap (λ (b : Bool). exact_root (inf b)) h ∙ exact_infinity
infinite_exact (fin s m e) h f = absurd (true≢false f)

zero_number : (ξ : Float) → is_zero (tangent_of ξ) ≡ true → Number ξ
zero_number nan z = absurd (true≢false (sym z ∙ ap is_zero tangent_nan))
zero_number (inf s) z = refl
zero_number (fin s m e) z = (refl, le_trans (le_of_eq (zero-mul (down e))) zero-le)

-- Where the tangent of ξ is zero, the root in it is that of +infinity.
pub zero_tangent_exact : (ξ : Float) → is_zero (tangent_of ξ) ≡ true → exact_root (under_root ξ) ≡ true
zero_tangent_exact ξ z = go (finite (under_root ξ)) refl
  where
    go : (f : Bool) → finite (under_root ξ) ≡ f → exact_root (under_root ξ) ≡ true
    go true f = absurd (true≢false (sym z ∙ finite_turns ξ f))
    go false f = infinite_exact (under_root ξ) (under_root_from ξ (zero_number ξ z)) f

-- ---- pairs, by the tests that tell their cases apart
module _ (a d b : Float) where
  pub zero_pair : is_zero b ≡ true → exact_pair a d b ≡ true
  unfolding exact_pair
  zero_pair h = rw h

  pub nan_pair : is_zero b ≡ false → is_nan (tangent_of (quotient a d b)) ≡ true → exact_pair a d b ≡ false
  unfolding exact_pair
  nan_pair h n = rw (h, n)

  pub other_pair : is_zero b ≡ false → is_nan (tangent_of (quotient a d b)) ≡ false
      → exact_pair a d b ≡ (exact_root (under_root (quotient a d b)) && exact_root (under_root (tangent_of (quotient a d b))))
  unfolding exact_pair
  other_pair h n = rw (h, n)

  still_tangent : is_zero b ≡ false → of_pair a d b ≡ Still → is_zero (tangent_of (quotient a d b)) ≡ true
  still_tangent h e = go (is_zero t) refl
    where
      t : Float
      t = tangent_of (quotient a d b)

      still : of_tangent t ≡ Still
      still = by_tangent a d b (other_tangent a d b t (equal_zero b ∙ h) refl) ∙ e

      go : (z : Bool) → is_zero t ≡ z → z ≡ true
      go true z = refl
      go false z = absurd (true≢false (sym (ap is_still still) ∙ turns t z))

  -- A still pair is exact, whatever its b.
  pub still_exact : of_pair a d b ≡ Still → exact_pair a d b ≡ true
  still_exact e = go (is_zero b) refl
    where
      go : (z : Bool) → is_zero b ≡ z → exact_pair a d b ≡ true
      go true h = zero_pair h
      go false h =
          let z = still_tangent h e in
          sym (other_pair_exact a d b (equal_zero b ∙ h)) ∙ (rw (zero_tangent_exact (quotient a d b) z, zero_exact (tangent_of (quotient a d b)) z))

  pub rounded_turns : exact_pair a d b ≡ false → is_still (of_pair a d b) ≡ false
  rounded_turns h = go (of_pair a d b) refl
    where
      go : (P : Parameters) → of_pair a d b ≡ P → is_still P ≡ false
      go Still e = absurd (true≢false (sym (still_exact e) ∙ h))
      go (Turn t c s) e = refl
