-- The parameters by the tests that tell their cases apart. Assumes nothing.
use mathlib.Core.Path.{◌≡◌, refl, sym, ap, ◌∙◌}
use mathlib.Core.Bool.{Bool, true, false, cond}
use lib.Ieee.{Float, nan, binary64, add, mul, div, lt, eq, of_bits}
use Rattle.float64.specs.Values.{plus_zero, is_zero}
use Rattle.float64.proofs.Zeros.{equal_zero}
use Rattle.root.specs.Sqrt.{sqrt_of}
use Rattle.rotation.specs.declared.Parameters.{Parameters}
use Rattle.rotation.specs.declared.Parameters.TheVariants.{Still, Turn}
use Rattle.rotation.specs.declared.Angle.{Angle}
use Rattle.rotation.specs.Rotation.{root_of, signum, tangent_of, cosine_of, angle_of, of_angle, quotient, tangent_of_pair, of_tangent, of_pair, sent}

module _ (x : Angle) where
  pub still_at : eq x.tangent plus_zero ≡ true → Still ≡ of_angle x
  unfolding of_angle
  still_at h = rw (sym (equal_zero x.tangent) ∙ h)

  pub turn_at : eq x.tangent plus_zero ≡ false → Turn x.tangent x.cosine (mul binary64 x.tangent x.cosine) ≡ of_angle x
  unfolding of_angle
  turn_at h = rw (sym (equal_zero x.tangent) ∙ h)

pub still_zero : Still ≡ of_tangent plus_zero
unfolding of_tangent of_angle of_bits
still_zero = refl

module _ (a d b : Float) where
  pub zero_tangent : eq b plus_zero ≡ true → plus_zero ≡ tangent_of_pair a d b
  unfolding tangent_of_pair
  zero_tangent h = ap (λ (z : Bool). cond z plus_zero (tangent_of (quotient a d b))) (sym h ∙ equal_zero b)

  pub other_tangent : (t : Float) → eq b plus_zero ≡ false → t ≡ tangent_of (quotient a d b) → t ≡ tangent_of_pair a d b
  unfolding tangent_of_pair
  other_tangent t h e = e ∙ ap (λ (z : Bool). cond z plus_zero (tangent_of (quotient a d b))) (sym h ∙ equal_zero b)

  pub by_tangent : {t : Float} → t ≡ tangent_of_pair a d b → of_tangent t ≡ of_pair a d b
  unfolding of_pair
  by_tangent e = ap of_tangent e

  pub still_pair : eq b plus_zero ≡ true → Still ≡ of_pair a d b
  still_pair h = still_zero ∙ by_tangent (zero_tangent h)

  pub other_pair : (t : Float) → eq b plus_zero ≡ false → t ≡ tangent_of (quotient a d b) → of_tangent t ≡ of_pair a d b
  other_pair t h e = by_tangent (other_tangent t h e)

-- ---- A tile that receives the tangent of a pair has the pair's own parameters.
pub received : (t : Float) → of_tangent (sent (of_tangent t)) ≡ of_tangent t
unfolding of_tangent
received t = go (is_zero t) refl
  where
    go : (z : Bool) → is_zero t ≡ z → of_tangent (sent (of_tangent t)) ≡ of_tangent t
    go true h = let e = still_at (angle_of t) (equal_zero t ∙ h) in ap (λ (p : Parameters). of_tangent (sent p)) (sym e) ∙ sym still_zero ∙ e
    go false h = let e = turn_at (angle_of t) (equal_zero t ∙ h) in ap (λ (p : Parameters). of_tangent (sent p)) (sym e)

pub received_pair : (a d b : Float) → of_tangent (sent (of_pair a d b)) ≡ of_pair a d b
unfolding of_pair
received_pair a d b = received (tangent_of_pair a d b)

-- ---- A tangent that isn't a number counts as a turn with three of them.
pub cosine_nan : cosine_of nan ≡ nan
unfolding cosine_of root_of sqrt_of add mul div of_bits
cosine_nan = refl

pub turn_nan : of_tangent nan ≡ Turn nan nan nan
unfolding of_tangent of_angle mul of_bits
turn_nan = rw cosine_nan

-- ---- If ξ isn't a number, neither is t.
pub tangent_nan : tangent_of nan ≡ nan
unfolding tangent_of signum lt div add of_bits
tangent_nan = refl
