-- The first k processors hold what comes into them.
use Rattle.std.proofs.Common.{◌≡◌, ◌-◌}
use Rattle.systolic.specs.Slots.{prior}
use Rattle.ordering.specs.declared.Registers.{Registers}
use Rattle.ordering.specs.Registers.{registers_of, in_slot}
use Rattle.ordering.proofs.Registers.moved.Given as goal

abbrev pub invariant-loop-k : goal.invariant-loop-k
invariant-loop-k l = ◌≡◌ {A = Registers} (record { left = l.left; right = l.right }) (registers_of l.k (λ u. in_slot l.self (prior (l.processors - 1) u)))
