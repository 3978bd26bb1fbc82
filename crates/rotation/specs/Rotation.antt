-- Document 01, "One rotation", and document 02 (v): tangent, cosine and sine of a pair, and what they do to two values. Definitions only.
-- Each operation is rounded, in the order of document 003, (5.1), with ξ by halves.
use Rattle.std.specs.Prelude.{cond, Float}
use Rattle.std.specs.Float.{nan, binary64}
use Rattle.std.specs.Float.Ieee.{neg, add, sub, mul, div, lt}
use Rattle.refusal.specs.Answers.{value_or}
use Rattle.float64.specs.Values.{plus_zero, one, two, is_zero, magnitude}
use Rattle.root.specs.Sqrt.{sqrt_of}
use Rattle.rotation.specs.declared.Parameters.{Parameters}
use Rattle.rotation.specs.declared.Parameters.TheVariants.{Still, Turn}
use Rattle.rotation.specs.declared.Angle.{Angle}
use Rattle.rotation.specs.declared.Sides.{Sides}

-- The root of x, or the NaN where it is refused.
unfoldable pub root_of : Float → Float
root_of x = value_or (sqrt_of x) nan

-- 1 where ξ is a zero of either sign
unfoldable pub signum : Float → Float
signum ξ = cond (lt ξ plus_zero) (neg one) one

unfoldable pub tangent_of : Float → Float
tangent_of ξ = div binary64 (signum ξ) (add binary64 (magnitude ξ) (root_of (add binary64 one (mul binary64 ξ ξ))))

unfoldable pub cosine_of : Float → Float
cosine_of t = div binary64 one (root_of (add binary64 one (mul binary64 t t)))

-- The quotient ξ of a pair by document 02 (v): a is a_pp, d is a_qq, b is a_pq.
unfoldable pub quotient : Float → Float → Float → Float
quotient a d b = div binary64 (sub binary64 (div binary64 d two) (div binary64 a two)) b

unfoldable pub tangent_of_pair : Float → Float → Float → Float
tangent_of_pair a d b = cond (is_zero b) plus_zero (tangent_of (quotient a d b))

abbrev pub angle_of : Float → Angle
angle_of t = record { tangent = t; cosine = cosine_of t }

-- Still if t is zero, or else a turn with t, c and s.
unfoldable pub of_angle : Angle → Parameters
of_angle x = cond (is_zero x.tangent) Still (Turn x.tangent x.cosine (mul binary64 x.tangent x.cosine))

unfoldable pub of_tangent : Float → Parameters
of_tangent t = of_angle (angle_of t)

unfoldable pub of_pair : Float → Float → Float → Parameters
of_pair a d b = of_tangent (tangent_of_pair a d b)

-- The tangent that a diagonal tile passes on: +0 when still.
abbrev pub sent : Parameters → Float
sent Still = plus_zero
sent (Turn t c s) = t

-- The new a_pp and a_qq; when still, both keep their bits.
abbrev pub diagonal_of : Parameters → Float → Float → Float → Sides
diagonal_of Still a d b = record { left = a; right = d }
diagonal_of (Turn t c s) a d b = record { left = sub binary64 a (mul binary64 t b); right = add binary64 d (mul binary64 t b) }

-- The turn of two values, that at the left line and that at the right: two products and then the sum; when still, both keep their bits.
abbrev pub turn_of : Parameters → Float → Float → Sides
turn_of Still x y = record { left = x; right = y }
turn_of (Turn t c s) x y =
    record { left = sub binary64 (mul binary64 c x) (mul binary64 s y); right = add binary64 (mul binary64 s x) (mul binary64 c y) }
