-- The two halves of a tick: all tiles turn, and then all set their cell wires and their marks. Definitions only.
use Rattle.std.specs.Prelude.{ℕ, ◌-◌, List, Float}
use Rattle.systolic.specs.Tiles as theory
use Rattle.systolic.specs.Tiles.{distance, step_at, action_at, turned_tile, settled_tile}
use Rattle.systolic.specs.Arrays.{nearer, incoming}
use Rattle.sizes.specs.Sizes.{processors_of, steps_of}
use Rattle.runs.specs.declared.Counts.{Counts}
use Rattle.runs.specs.Cells.{Cell, Setting, setting}
use Rattle.tile.specs.declared.Tile.{Tile}
use Rattle.tile.specs.Tiles.{operations}
use Rattle.array.specs.declared.Array.{Array}
use Rattle.array.specs.Arrays.{the_array, tiles_by}

-- Tile (i, j) of N by N tiles A after each half of tick t of a run of K steps at the setting s.
abbrev pub turned_in : Setting → ℕ → ℕ → ℕ → (ℕ → ℕ → theory.Tile Cell Float Float Counts) → ℕ → ℕ → theory.Tile Cell Float Float Counts
turned_in s N K t A i j =
    turned_tile (operations s) (step_at (distance i j) t) i j (action_at K (distance i j) t) (A i j) (incoming (N - 1) A i j) (A i (nearer i j)).row_wire
    (A (nearer j i) j).column_wire

abbrev pub settled_in : Setting → ℕ → ℕ → ℕ → (ℕ → ℕ → theory.Tile Cell Float Float Counts) → ℕ → ℕ → theory.Tile Cell Float Float Counts
settled_in s N K t A i j = settled_tile (operations s) (N - 1) i j (action_at K (distance i j) t) (A i j)

-- The tiles of an array after each half of its next tick.
unfoldable pub turned : Array → List Tile
turned x =
    tiles_by (processors_of x.n) (turned_in (setting x.n) (processors_of x.n) (steps_of x.n x.sweeps) x.tick (the_array x.tiles)) x.tiles

unfoldable pub settled : Array → List Tile
settled x =
    tiles_by (processors_of x.n) (settled_in (setting x.n) (processors_of x.n) (steps_of x.n x.sweeps) x.tick (the_array x.tiles)) x.tiles
