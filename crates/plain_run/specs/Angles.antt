-- What is found of a step's pairs before any of them is turned. Definitions only.
use Rattle.std.specs.Prelude.{Bool, false, ◌&&◌}
use Rattle.std.specs.Float.{nan}
use Rattle.root.specs.declared.Root.{Root}
use Rattle.rotation.specs.declared.Angle.{Angle}
use Rattle.rotation.specs.Exact.{exact_cosine}

-- What stands where there is no processor.
abbrev pub no_tangent : Root
no_tangent = record { value = nan; exact = false }

abbrev pub no_angle : Angle
no_angle = record { tangent = nan; cosine = nan }

-- Both roots of a pair with this tangent are exact.
abbrev pub exact_by : Root → Bool
exact_by t = t.exact && exact_cosine t.value
