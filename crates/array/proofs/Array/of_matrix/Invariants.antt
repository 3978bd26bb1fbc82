-- The tiles before k are those of the start.
use Prim.Native.Nat.{◌*◌, ◌/◌, ◌%◌, ◌≤◌}
use Rattle.lists.proofs.Filled.{Filled}
use Rattle.sizes.specs.Sizes.{most_processors}
use Rattle.tile_start.specs.Beginning.{start_tile}
use Rattle.array.specs.Arrays.{no_tile}
use Rattle.array.proofs.Array.of_matrix.Given as goal

abbrev pub invariant-loop-k : goal.invariant-loop-k
invariant-loop-k l =
    (l.k ≤ most_processors * most_processors)
    × Filled no_tile (λ k. start_tile l.n l.matrix (k / most_processors) (k % most_processors)) (most_processors * most_processors) l.k l.tile-items
