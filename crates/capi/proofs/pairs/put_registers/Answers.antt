use Rattle.std.proofs.Common.{arith}
use Rattle.lists.proofs.Filled.{filled_all}
use Rattle.capi.specs.Calls.{listed_in}
use Rattle.capi.proofs.pairs.put_registers.Goals as goal

pub returns : goal.returns
unfolding listed_in
returns c = filled_all _ _ c.loop-k.invariant (omega arith)
