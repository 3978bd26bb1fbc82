use Rattle.std.proofs.Common.{◌≡◌}
use Rattle.ordering.specs.Pairs.{registers_at}
use Rattle.plain_run.specs.State.{after}
use Rattle.plain_run.specs.Met.{turns_by, rounded_by}
use Rattle.plain_run.specs.Matrices.{state_in, HeldAfter}
use Rattle.plain_run.proofs.sweeps.Matrices.make_sweep.Given as goal

-- The two lists hold the state after so many steps, the registers stand at that step, and the turns and the rounded pairs so far are counted.
abbrev pub invariant-loop : goal.invariant-loop
invariant-loop l =
    let n = l.initial.self.n in
    let start = state_in l.initial.self in
    (l.registers ≡ registers_at n l.counter) × HeldAfter l.initial.self l.self (after n l.counter start)
    × (l.turns ≡ turns_by n l.counter start) × (l.rounded ≡ rounded_by n l.counter start)
