-- A pair of finite entries has a ξ that is a number, and tangent, cosine and sine of at most 1. Assumes nothing.
use mathlib.Core.Path.{◌≡◌, refl, sym, ap, subst}
use mathlib.Core.Bool.{Bool, true, false, cond}
use Prim.Native.Nat.{◌^◌, zero-le}
use native.Mathlib.Nat.{le_refl}
use lib.Dec.{T, lit<, lit≤}
use lib.Ieee.{Float, nan, binary64, fits, neg, add, mul, div, sub, lt, of_bits}
use lib.Ieee.Fits.{add-fits}
use Rattle.refusal.specs.Answers.{Answered, given, value_or}
use Rattle.float64.specs.Values.{plus_zero, one, two, finite, is_zero, magnitude}
use Rattle.float64.proofs.Grid.{power_grid}
use Rattle.float64.proofs.Bounds.{AtMost, AtLeast, Number, bounded_finite, bounded_number, add_at_least, mul_at_most, div_at_most, square_at_least, div_number}
use Rattle.float64.proofs.HalfDifferences.{half_difference}
use Rattle.root.specs.Sqrt.{sqrt_of}
use Rattle.root.proofs.RootBounds.{root_at_least}
use Rattle.rotation.specs.declared.Parameters.{Parameters}
use Rattle.rotation.specs.declared.Parameters.TheVariants.{Still, Turn}
use Rattle.rotation.specs.Rotation.{root_of, signum, tangent_of, cosine_of, quotient, tangent_of_pair, of_angle, of_tangent, of_pair}
use Rattle.rotation.specs.Exact.{under_root}

-- at most 1, which is 2 ^ 1074 units, and at least 1
abbrev pub UpToOne : Float → Type 0
UpToOne x = AtMost (2 ^ 1074) x

abbrev pub FromOne : Float → Type 0
FromOne x = AtLeast (2 ^ 1074) x

one_up_to : UpToOne one
unfolding of_bits
one_up_to = lit≤ tt

one_from : FromOne one
unfolding of_bits
one_from = (refl, lit≤ tt)

signum_up_to : (ξ : Float) → UpToOne (signum ξ)
unfolding signum neg of_bits
signum_up_to ξ = go (lt ξ plus_zero)
  where
    go : (b : Bool) → UpToOne (cond b (neg one) one)
    go true = lit≤ tt
    go false = lit≤ tt

-- 1 + x * x, and its root
pub under_root_from : (x : Float) → Number x → FromOne (under_root x)
under_root_from x h = add_at_least (2 ^ 1074) 0 (power_grid 1074) (lit< tt) one (mul binary64 x x) one_from (square_at_least x h)

pub given_root : (x r : Float) → sqrt_of x ≡ given r → r ≡ root_of x
unfolding root_of
given_root x r e = sym (ap (λ (y : Answered Float). value_or y nan) e)

secant_from : (x : Float) → Number x → FromOne (root_of (under_root x))
secant_from x h =
    let w = root_at_least (2 ^ 1074) (2 ^ 1074) (power_grid 1074) (lit< tt) (le_refl _) (under_root x) (add-fits binary64 one (mul binary64 x x))
    (under_root_from x h) in
    subst FromOne (given_root (under_root x) w.0 w.1) w.2

-- a value up to 1 by one from 1 on
by_one : (x y : Float) → UpToOne x → FromOne y → UpToOne (div binary64 x y)
by_one x y h k = div_at_most (2 ^ 1074) (2 ^ 1074) (2 ^ 1074) (power_grid 1074) (lit< tt) x y (lit< tt) (le_refl _) h k

pub tangent_up_to : (ξ : Float) → Number ξ → UpToOne (tangent_of ξ)
unfolding tangent_of
tangent_up_to ξ h =
    by_one (signum ξ) (add binary64 (magnitude ξ) (root_of (add binary64 one (mul binary64 ξ ξ)))) (signum_up_to ξ)
    (add_at_least 0 (2 ^ 1074) (power_grid 1074) (lit< tt) (magnitude ξ) _ h (secant_from ξ h))

pub cosine_up_to : (t : Float) → UpToOne t → UpToOne (cosine_of t)
unfolding cosine_of
cosine_up_to t h = by_one one (root_of (add binary64 one (mul binary64 t t))) one_up_to (secant_from t (bounded_number (2 ^ 1074) t h))

-- ---- the parameters of a pair
abbrev pub AllUpToOne : Parameters → Type 0
AllUpToOne Still = Unit
AllUpToOne (Turn t c s) = UpToOne t × UpToOne c × UpToOne s

abbrev pub AllFinite : Parameters → Type 0
AllFinite Still = Unit
AllFinite (Turn t c s) = (finite t ≡ true) × (finite c ≡ true) × (finite s ≡ true)

of_tangent_up_to : (t : Float) → UpToOne t → AllUpToOne (of_tangent t)
unfolding of_tangent of_angle
of_tangent_up_to t h = go (is_zero t)
  where
    go : (z : Bool) → AllUpToOne (cond z Still (Turn t (cosine_of t) (mul binary64 t (cosine_of t))))
    go true = tt
    go false =
        let c = cosine_up_to t h in
        (h, c, mul_at_most (2 ^ 1074) (2 ^ 1074) (2 ^ 1074) (power_grid 1074) (lit< tt) t (cosine_of t) (le_refl _) h c)

module _ (a d b : Float) (A : T (fits binary64 a)) (D : T (fits binary64 d)) (fa : finite a ≡ true) (fd : finite d ≡ true) (fb : finite b ≡ true) where
  pub quotient_number : is_zero b ≡ false → Number (quotient a d b)
  unfolding quotient
  quotient_number h = div_number (sub binary64 (div binary64 d two) (div binary64 a two)) b (half_difference d a fd fa D A) fb h

  pub parameters_up_to : AllUpToOne (of_pair a d b)
  unfolding of_pair tangent_of_pair
  parameters_up_to = of_tangent_up_to _ (go (is_zero b) (λ h. tangent_up_to (quotient a d b) (quotient_number h)))
    where
      go : (z : Bool) → (z ≡ false → UpToOne (tangent_of (quotient a d b))) → UpToOne (cond z plus_zero (tangent_of (quotient a d b)))
      go true h = unfold of_bits in zero-le
      go false h = h refl

  pub parameters_finite : AllFinite (of_pair a d b)
  parameters_finite = go (of_pair a d b) parameters_up_to
    where
      go : (P : Parameters) → AllUpToOne P → AllFinite P
      go Still p = tt
      go (Turn t c s) p = (bounded_finite (2 ^ 1074) t p.0, bounded_finite (2 ^ 1074) c p.1, bounded_finite (2 ^ 1074) s p.2)
