-- Document 02 (vii): whether both roots of a pair are exact, and what is found of a pair. Definitions only.
use Rattle.std.specs.Prelude.{Bool, true, false, cond, ◌&&◌, Float}
use Rattle.std.specs.Float.{binary64}
use Rattle.std.specs.Float.Ieee.{add, mul, is_nan}
use Rattle.float64.specs.Values.{one, is_zero}
use Rattle.root.specs.Exact.{exact_root}
use Rattle.root.specs.declared.Root.{Root}
use Rattle.rotation.specs.declared.Found.{Found}
use Rattle.rotation.specs.Rotation.{root_of, tangent_of, cosine_of, quotient, tangent_of_pair, of_pair}

-- The value under a root: that of the tangent where x is ξ, that of the cosine where x is t.
abbrev pub under_root : Float → Float
under_root x = add binary64 one (mul binary64 x x)

-- Both roots of a pair are exact. Where b is zero there is none, and the pair counts as exact; where t isn't a number it counts as rounded.
unfoldable pub exact_pair : Float → Float → Float → Bool
exact_pair a d b =
    let ξ = quotient a d b in
    let t = tangent_of ξ in cond (is_zero b) true (cond (is_nan t) false (exact_root (under_root ξ) && exact_root (under_root t)))

-- The parameters of a pair, and whether both of its roots are exact.
abbrev pub found_of : Float → Float → Float → Found
found_of a d b = record { parameters = of_pair a d b; exact = exact_pair a d b }

-- ---- what is found on the way
abbrev pub rooted_of : Float → Root
rooted_of x = record { value = root_of x; exact = exact_root x }

abbrev pub tangent_rooted : Float → Root
tangent_rooted ξ = record { value = tangent_of ξ; exact = exact_root (under_root ξ) }

abbrev pub exact_cosine : Float → Bool
exact_cosine t = exact_root (under_root t)

abbrev pub cosine_rooted : Float → Root
cosine_rooted t = record { value = cosine_of t; exact = exact_cosine t }

-- The root of a pair's tangent is exact, or there is none.
unfoldable pub exact_tangent : Float → Float → Float → Bool
exact_tangent a d b = cond (is_zero b) true (exact_root (under_root (quotient a d b)))

abbrev pub tangent_found : Float → Float → Float → Root
tangent_found a d b = record { value = tangent_of_pair a d b; exact = exact_tangent a d b }
