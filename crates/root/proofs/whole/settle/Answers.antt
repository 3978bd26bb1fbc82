use Rattle.std.proofs.Common.{arith}
use Rattle.root.proofs.Floors.{found}
use Rattle.root.proofs.Remainders.{settled}
use Rattle.root.proofs.whole.settle.Goals as goal

pub returns : goal.returns
returns c =
    let e = c.in_ok-left.ensures in
    found _ _ c.requires.0 c.requires.1 (settled _ _ _ e.1 (omega arith) (omega arith) (omega arith))
