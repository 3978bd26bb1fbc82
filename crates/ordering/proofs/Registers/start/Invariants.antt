-- The first k processors hold their lines.
use Rattle.std.proofs.Common.{◌≡◌}
use Rattle.systolic.specs.Slots.{ordered_line}
use Rattle.ordering.specs.declared.Registers.{Registers}
use Rattle.ordering.specs.Registers.{registers_of}
use Rattle.ordering.proofs.Registers.start.Given as goal

abbrev pub invariant-loop-k : goal.invariant-loop-k
invariant-loop-k l = ◌≡◌ {A = Registers} (record { left = l.left; right = l.right }) (registers_of l.k (ordered_line l.first))
