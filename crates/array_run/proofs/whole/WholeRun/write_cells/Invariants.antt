-- The first k entries of both results are those in the cells.
use Prim.Native.Nat.{◌+◌, ◌*◌, ◌/◌, ◌%◌, ◌≤◌}
use lib.Ieee.{nan}
use Rattle.lists.proofs.Filled.{Filled}
use Rattle.array_run.specs.Results.{matrix_in, vectors_in}
use Rattle.array_run.proofs.whole.WholeRun.write_cells.Given as goal

abbrev pub invariant-loop-k : goal.invariant-loop-k
invariant-loop-k l =
    (l.k ≤ l.n * l.n) × Filled nan (λ i. matrix_in l.n l.self.array.tiles (i / l.n + 1) (i % l.n + 1)) (l.n * l.n) l.k l.res
    × Filled nan (λ i. vectors_in l.n l.self.array.tiles (i / l.n + 1) (i % l.n + 1)) (l.n * l.n) l.k l.vectors
