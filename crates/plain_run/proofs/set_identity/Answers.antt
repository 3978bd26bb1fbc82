use native.Mathlib.Omega.{arith}
use Rattle.lists.proofs.Filled.{filled_all}
use Rattle.matrix.specs.Matrix.{flat}
use Rattle.plain_run.proofs.set_identity.Goals as goal

pub returns : goal.returns
unfolding flat
returns c = filled_all _ _ c.loop-k.invariant (omega arith)
