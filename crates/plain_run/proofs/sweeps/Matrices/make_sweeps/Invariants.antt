use Rattle.std.proofs.Common.{◌≡◌}
use Rattle.sizes.specs.Sizes.{steps_of}
use Rattle.plain_run.specs.State.{after}
use Rattle.plain_run.specs.Met.{rounded_by}
use Rattle.plain_run.specs.Matrices.{state_in, HeldAfter}
use Rattle.plain_run.proofs.SweepsMade.{NoneQuiet}
use Rattle.plain_run.proofs.sweeps.Matrices.make_sweeps.Given as goal

-- The two lists hold the state after m sweeps, of which none was quiet, and the rounded pairs in them are counted.
abbrev pub invariant-loop-m : goal.invariant-loop-m
invariant-loop-m l =
    let n = l.initial.self.n in
    let start = state_in l.initial.self in
    HeldAfter l.initial.self l.self (after n (steps_of n l.m) start) × NoneQuiet n l.m start
    × (l.rounded ≡ rounded_by n (steps_of n l.m) start)
