use native.Mathlib.Omega.{arith}
use Rattle.plain_run.proofs.CopiedLists.{copied}
use Rattle.plain_run.proofs.copy.Goals as goal

pub returns : goal.returns
returns c = copied _ _ _ c.loop-k.invariant (omega arith)
