use mathlib.Core.Path.{◌∙◌}
use native.Mathlib.Nat.{le_antisymm}
use native.Mathlib.Omega.{arith}
use Rattle.matrix.proofs.Transposition.{exchange_next, line_next}
use Rattle.matrix.proofs.exchange_line.Goals as goal

pub loop-j-preserved : goal.loop-j-preserved
loop-j-preserved c A e =
    exchange_next _ _ c.loop-j.j c.requires.0 (omega arith) A (c.loop-j.invariant A e) c.swap.ensures.after

pub returns : goal.returns
returns c A e =
    rw (le_antisymm c.loop-j.auto.j-end c.loop-j-test.false) at (c.loop-j.invariant A e) ∙ line_next _ A _
