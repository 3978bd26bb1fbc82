-- The parts of a tile's tick are the theory's. Assumes nothing.
use Prim.Native.Nat.{ℕ}
use mathlib.Core.Path.{◌≡◌}
use Rattle.std.proofs.Common.{Option}
use mathlib.Core.Bool.{Bool, ◌||◌}
use lib.Ieee.{Float}
use Rattle.systolic.specs.Tiles as theory
use Rattle.systolic.specs.Tiles.{phase_in, turned_tile, settled_tile}
use Rattle.tile_wires.specs.declared.Part.{Part}
use Rattle.tile_wires.specs.Wires.{part_wires}
use Rattle.tile_schedule.specs.Schedule.{phase_number}
use Rattle.rotation.specs.declared.Angle.{Angle}
use Rattle.rotation.specs.Rotation.{angle_of}
use Rattle.runs.specs.Cells.{Setting}
use Rattle.tile.specs.declared.Tile.{Tile}
use Rattle.tile.specs.Tiles.{block_of, the_tile, operations}
use Rattle.tile.specs.Turned.{turned_of, part_not_finite}
use Rattle.tile.proofs.TileWork.{worked_cells, worked_row, worked_column, worked_counts, some_fail}
use Rattle.tile.proofs.SetWires.{part_wires_lem}

module _ (s : Setting) (x : Tile) (i j : ℕ) (a : theory.Action) where
  -- A tile on the diagonal uses neither angle.
  pub tile_turned : (k : ℕ) (q : Part) (h v : Float) (row column : Angle) → (¬ (i ≡ j) → row ≡ angle_of h) → (¬ (i ≡ j) → column ≡ angle_of v)
      → the_tile (turned_of s.order k a x q i j row column) ≡ turned_tile (operations s) k i j a (the_tile x) (block_of q) h v
  unfolding the_tile turned_of
  tile_turned k q h v row column e f =
      rw (
        worked_cells s k i j h v row column e f x q a,
        worked_row s k i j h v row column e f x q a,
        worked_column s k i j h v row column e f x q a,
        worked_counts s k i j h v row column e f x q a,
      )

  pub tile_settled : (m : ℕ) (phase : Option ℕ) {out : Part} {mark : Bool} → phase_number phase ≡ phase_in a → out ≡ part_wires phase m i j x.cells x.wires
      → mark ≡ (x.mark || part_not_finite x.cells)
      → the_tile (record { cells = x.cells; wires = out; row_wire = x.row_wire; column_wire = x.column_wire; mark = mark; counts = x.counts })
      ≡ settled_tile (operations s) m i j a (the_tile x)
  unfolding the_tile
  tile_settled m phase p f g = rw (f, g, part_wires_lem a m i j x.cells x.wires phase p, some_fail s x.cells)
