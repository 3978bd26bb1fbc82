-- Document 01, "The array", and document 02 (ii): the tiles at the start. Definitions only.
use Rattle.std.specs.Prelude.{ℕ, ◌+◌, ◌*◌, false, cond, ◌&&◌, List, ltb, Float}
use Rattle.float64.specs.Values.{plus_zero}
use Rattle.tile_wires.specs.declared.Quad.{Quad}
use Rattle.tile_wires.specs.declared.Part.{Part}
use Rattle.tile_wires.specs.Wires.{quad}
use Rattle.sizes.specs.Sizes.{processors_of, first_line}
use Rattle.matrix.specs.Matrix.{entry_of}
use Rattle.runs.specs.State.{identity, bordered}
use Rattle.runs.specs.Counts.{counts}
use Rattle.tile.specs.declared.Tile.{Tile}

unfoldable pub zero_part : Part
zero_part = record { matrix = quad plus_zero plus_zero plus_zero plus_zero; vectors = quad plus_zero plus_zero plus_zero plus_zero }

-- A tile with the given cells, its wires at +0, not marked, nothing counted.
unfoldable pub starting_tile : Part → Tile
starting_tile p = record { cells = p; wires = zero_part; row_wire = plus_zero; column_wire = plus_zero; mark = false; counts = counts 0 0 }

-- The part of A in the rows r and r + 1 and the columns c and c + 1.
unfoldable pub quad_at : (ℕ → ℕ → Float) → ℕ → ℕ → Quad Float
quad_at A r c = quad (A r c) (A r (c + 1)) (A (r + 1) c) (A (r + 1) (c + 1))

-- The part at the row registers i and the column registers j, both from 0.
unfoldable pub part_at : ℕ → List Float → ℕ → ℕ → Part
part_at n l i j =
    let r = 2 * i + first_line n in
    let c = 2 * j + first_line n in
    record { matrix = quad_at (bordered (entry_of n l)) r c; vectors = quad_at (bordered identity) r c }

-- The tile in row i and column j at the start: zeros where it is not in use.
unfoldable pub start_tile : ℕ → List Float → ℕ → ℕ → Tile
start_tile n l i j = starting_tile (cond (ltb i (processors_of n) && ltb j (processors_of n)) (part_at n l i j) zero_part)
