use lib.ListN.{get_or}
use Rattle.lists.proofs.Filled.{FilledFrom}
use Rattle.sizes.specs.Sizes.{most_processors}
use Rattle.matrix.specs.Matrix.{entry_of}
use Rattle.matrix_turns.specs.Turns.{tangent_at}
use Rattle.plain_run.specs.Angles.{no_tangent}
use Rattle.plain_run.proofs.sweeps.Matrices.tangents.Given as goal

-- The tangents of the processors from the first that is not always still up to k are found.
abbrev pub invariant-loop-k : goal.invariant-loop-k
invariant-loop-k l =
    FilledFrom l.initial.k no_tangent
    (λ i. tangent_at (get_or l.registers.left i 0) (get_or l.registers.right i 0) (entry_of l.self.n l.self.matrix.now)) most_processors l.k l.tangents
