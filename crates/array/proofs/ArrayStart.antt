-- The array at the start. Assumes nothing.
use Prim.Native.Nat.{ℕ, ◌*◌, ◌/◌, ◌%◌}
use mathlib.Core.Path.{◌≡◌}
use mathlib.Core.List.{List}
use lib.Ieee.{Float}
use Rattle.lists.specs.Tabulate.{tabulate}
use Rattle.sizes.specs.Sizes.{most_processors}
use Rattle.tile.specs.declared.Tile.{Tile}
use Rattle.tile_start.specs.Beginning.{start_tile}
use Rattle.array.specs.declared.Array.{Array}
use Rattle.array.specs.Runs.{start_array}

pub start_is : (n sweeps : ℕ) (l : List Float) {tiles : List Tile}
    → tiles ≡ tabulate (most_processors * most_processors) (λ k. start_tile n l (k / most_processors) (k % most_processors))
    → ◌≡◌ {A = Array} (record { n = n; sweeps = sweeps; tick = 0; tiles = tiles }) (start_array n sweeps l)
unfolding start_array
start_is n sweeps l e = rw e
