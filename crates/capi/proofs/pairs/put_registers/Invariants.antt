use Rattle.std.proofs.Common.{length, get_or}
use Rattle.lists.proofs.Filled.{Filled}
use Rattle.capi.proofs.pairs.put_registers.Given as goal

-- The first k places hold the registers, and 0 where there are none.
abbrev pub invariant-loop-k : goal.invariant-loop-k
invariant-loop-k l = Filled 0 (λ i. get_or l.registers i 0) (length l.initial.to) l.k l.to
