-- Angles whose cosines are known. Definitions only.
use Rattle.std.specs.Prelude.{◌≡◌, List, map}
use Rattle.rotation.specs.declared.Angle.{Angle}
use Rattle.rotation.specs.Rotation.{angle_of}

-- Each cosine is that of the tangent beside it.
abbrev pub Known : List Angle → Type 0
Known angles = angles ≡ map (λ (x : Angle). angle_of x.tangent) angles
