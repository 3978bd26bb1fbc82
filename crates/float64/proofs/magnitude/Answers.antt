use Rattle.std.proofs.Common.{◌≡◌, false, refl, ◌∙◌}
use Rattle.std.specs.Float.{Float, nan, inf, fin, float_with_sign}
use Rattle.float64.specs.Values.{magnitude}
use Rattle.float64.proofs.magnitude.Goals as goal

-- std's word for it
magnitude_lem : (x : Float) → float_with_sign false x ≡ magnitude x
unfolding float_with_sign
magnitude_lem nan = refl
magnitude_lem (inf s) = refl
magnitude_lem (fin s m e) = refl

pub returns : goal.returns
returns c = c.abs.ensures.value ∙ magnitude_lem _
