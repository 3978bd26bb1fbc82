-- The records of the processors before k are written.
use Rattle.std.proofs.Common.{◌≡◌}
use Rattle.lists.specs.Over.{over}
use Rattle.step_records.specs.Records.{record_at}
use Rattle.step_records.proofs.of_step.Given as goal

abbrev pub invariant-loop-k : goal.invariant-loop-k
invariant-loop-k l = l.record-items ≡ over l.k (record_at l.n l.matrix l.registers) l.initial.record-items
