use native.Mathlib.Omega.{arith}
use Rattle.array.proofs.ArrayEnd.{goes_on}
use Rattle.array.proofs.Array.ticks.Goals as goal

pub after-requires : goal.after-requires
after-requires c = goes_on _ c.ticks_left-left.ensures c.if-left-eq0.false _ (omega arith)
