use Prim.Native.Nat.{◌≤◌}
use mathlib.Core.Path.{◌≡◌}
use mathlib.Core.Bool.{not}
use lib.ListN.{get_or}
use Rattle.lists.specs.Bounded.{count}
use Rattle.lists.proofs.Filled.{FilledFrom}
use Rattle.sizes.specs.Sizes.{most_processors, still_of}
use Rattle.rotation.specs.Rotation.{angle_of}
use Rattle.runs.specs.Blocks.{ruled_exact}
use Rattle.plain_run.specs.Angles.{no_tangent, no_angle, exact_by}
use Rattle.plain_run.proofs.angles.angles_of.Given as goal

-- The angles of the processors from the first that is not always still up to k are found, and the rounded pairs of the processors below k are counted.
abbrev pub invariant-loop-k : goal.invariant-loop-k
invariant-loop-k l =
    (l.k ≤ l.k-end) × (still_of l.n ≤ l.k)
    × FilledFrom l.initial.k no_angle (λ i. angle_of (get_or l.tangents i no_tangent).value) most_processors l.k l.angles
    × (l.rounded ≡ count (λ i. not (ruled_exact l.n i (exact_by (get_or l.tangents i no_tangent)))) l.k)
