-- The registers are those at the step that the loop has come to.
use Rattle.std.proofs.Common.{◌≡◌, ◌-◌}
use Rattle.systolic.specs.Slots.{ordered_line, line_at}
use Rattle.ordering.specs.Registers.{registers_of}
use Rattle.ordering.proofs.Registers.after.Given as goal

abbrev pub invariant-loop-s : goal.invariant-loop-s
invariant-loop-s l = l.registers ≡ registers_of l.processors (line_at (ordered_line l.first) (l.processors - 1) l._s)
