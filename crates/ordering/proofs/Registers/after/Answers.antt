use native.Mathlib.Omega.{arith}
use Rattle.ordering.proofs.Movement.{next_step}
use Rattle.ordering.proofs.Registers.after.Goals as goal

pub loop-s-preserved : goal.loop-s-preserved
loop-s-preserved c = next_step _ _ _ (omega arith) (omega arith) c.moved-registers.ensures c.loop-s.invariant
