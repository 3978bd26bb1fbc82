use Rattle.rotation.proofs.ParameterCases.{still_at, turn_at}
use Rattle.rotation.proofs.of_angle.Goals as goal

pub returns-then-x : goal.returns-then-x
returns-then-x c = still_at _ c.if-x.true

pub returns-else-x : goal.returns-else-x
returns-else-x c = turn_at _ c.if-x.false
