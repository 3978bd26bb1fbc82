use Rattle.float64.proofs.Patterns.{finite_pattern}
use Rattle.float64.proofs.is_finite_pattern.Goals as goal

pub returns : goal.returns
returns c = finite_pattern _
