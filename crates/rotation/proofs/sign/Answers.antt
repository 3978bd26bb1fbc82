use Rattle.rotation.specs.Rotation.{signum}
use Rattle.rotation.proofs.sign.Goals as goal

pub returns-then-xi : goal.returns-then-xi
unfolding signum
returns-then-xi c = cc

pub returns-else-xi : goal.returns-else-xi
unfolding signum
returns-else-xi c = cc
