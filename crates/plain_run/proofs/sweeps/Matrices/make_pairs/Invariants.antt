use Rattle.std.proofs.Common.{◌≡◌, get_or, ◌≤◌}
use Rattle.lists.specs.Bounded.{count}
use Rattle.sizes.specs.Sizes.{processors_of, still_of}
use Rattle.rotation.specs.Rotation.{of_angle}
use Rattle.runs.specs.Blocks.{ruled}
use Rattle.runs.specs.Counts.{is_turn}
use Rattle.plain_run.specs.State.{pairs_rotated}
use Rattle.plain_run.specs.Angles.{no_angle}
use Rattle.plain_run.specs.Matrices.{state_in, HeldAfter}
use Rattle.plain_run.proofs.sweeps.Matrices.make_pairs.Given as goal

-- The pairs of the processors below k are turned, or always still, and those that are not still are counted.
abbrev pub invariant-loop-k : goal.invariant-loop-k
invariant-loop-k l =
    let n = l.initial.self.n in
    let start = state_in l.initial.self in
    (still_of n ≤ l.k) × (l.k ≤ processors_of n)
    × HeldAfter l.initial.self l.self (pairs_rotated n l.registers.left l.registers.right l.k start)
    × (l.turns ≡ count (λ i. is_turn (ruled n i (of_angle (get_or l.angles i no_angle)))) l.k)
