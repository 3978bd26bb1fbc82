use native.Mathlib.Omega.{arith}
use Rattle.lists.proofs.Filled.{filled_all}
use Rattle.array.proofs.ArrayStart.{start_is}
use Rattle.array.proofs.Array.of_matrix.Goals as goal

pub returns : goal.returns
returns c = start_is _ _ _ (filled_all _ _ c.loop-k.invariant.1 (omega arith))
