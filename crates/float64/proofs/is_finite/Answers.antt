use Rattle.std.proofs.Common.{◌≡◌, refl, ◌∙◌}
use Rattle.std.specs.Float.{Float, nan, inf, fin, float_is_finite}
use Rattle.float64.specs.Values.{finite}
use Rattle.float64.proofs.is_finite.Goals as goal

-- std's word for it
is_finite_lem : (x : Float) → float_is_finite x ≡ finite x
unfolding float_is_finite finite
is_finite_lem nan = refl
is_finite_lem (inf s) = refl
is_finite_lem (fin s m e) = refl

pub returns : goal.returns
returns c = c.is_finite.ensures.value ∙ is_finite_lem _
