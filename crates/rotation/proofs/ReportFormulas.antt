-- The parameters of a pair in the formulas of document 003, and the signs in them. Assumes nothing.
use mathlib.Core.Path.{◌≡◌, refl, sym, ap, ◌∙◌}
use mathlib.Core.Bool.{true, false, cond}
use lib.Ieee.{Float, nan, binary64, neg, add, sub, mul, div, lt}
use Rattle.float64.specs.Values.{plus_zero, one, two, is_zero, magnitude}
use Rattle.float64.proofs.Zeros.{equal_zero, above_not_below, zero_not_below}
use Rattle.rotation.specs.declared.Parameters.TheVariants.{Still, Turn}
use Rattle.rotation.specs.Rotation.{root_of, signum, tangent_of, cosine_of, quotient, tangent_of_pair, of_angle, of_tangent, of_pair}
use Rattle.rotation.proofs.ParameterCases.{still_pair, other_pair, turn_nan, tangent_nan}

module _ (a d b : Float) where
  pub turns : is_zero b ≡ false
      → (let ξ = div binary64 (sub binary64 (div binary64 d two) (div binary64 a two)) b in
      let t = div binary64 (signum ξ) (add binary64 (magnitude ξ) (root_of (add binary64 one (mul binary64 ξ ξ)))) in
      let c = div binary64 one (root_of (add binary64 one (mul binary64 t t))) in
      of_pair a d b ≡ cond (is_zero t) Still (Turn t c (mul binary64 t c)))
  unfolding of_pair of_tangent of_angle tangent_of_pair tangent_of cosine_of quotient
  turns h = rw h

  pub still : is_zero b ≡ true → of_pair a d b ≡ Still
  still h = sym (still_pair a d b (equal_zero b ∙ h))

  pub not_a_number : is_zero b ≡ false → div binary64 (sub binary64 (div binary64 d two) (div binary64 a two)) b ≡ nan → of_pair a d b ≡ Turn nan nan nan
  unfolding quotient
  not_a_number h e = sym (other_pair a d b _ (equal_zero b ∙ h) refl) ∙ ap (λ (ξ : Float). of_tangent (tangent_of ξ)) e ∙ ap of_tangent tangent_nan ∙ turn_nan

-- ---- signs
pub sign_below : (ξ : Float) → lt ξ plus_zero ≡ true → signum ξ ≡ neg one
unfolding signum
sign_below ξ h = rw h

pub sign_of_zero : (ξ : Float) → is_zero ξ ≡ true → signum ξ ≡ one
unfolding signum
sign_of_zero ξ h = rw (zero_not_below ξ h)

pub sign_above : (ξ : Float) → lt plus_zero ξ ≡ true → signum ξ ≡ one
unfolding signum
sign_above ξ h = rw (above_not_below ξ h)
