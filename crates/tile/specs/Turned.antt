-- The cells of a tile after its work, on the structs of the code. Definitions only.
use Rattle.std.specs.Prelude.{ℕ, Bool, not, cond, ◌||◌, eqb, ltb, Float}
use Rattle.float64.specs.Values.{finite}
use Rattle.systolic.specs.Tiles.{Action}
use Rattle.systolic.specs.Traffic.{rotates, reads_cells}
use Rattle.tile_wires.specs.declared.Quad.{Quad}
use Rattle.tile_wires.specs.declared.Part.{Part}
use Rattle.rotation.specs.declared.Angle.{Angle}
use Rattle.rotation.specs.declared.Parameters.{Parameters}
use Rattle.rotation.specs.Rotation.{of_angle, sent, turn_of}
use Rattle.rotation.specs.declared.Found.{Found}
use Rattle.runs.specs.Blocks.{block_parameters, block_found, ruled, ruled_found, matrix_block, columns_block}
use Rattle.runs.specs.Counts.{counts_after}
use Rattle.tile.specs.declared.Tile.{Tile}
use Rattle.tile.specs.declared.cells.Work.{Work}
use Rattle.tile.specs.Tiles.{quad_block, quad_of}

unfoldable pub rows_turned : Parameters → Quad Float → Quad Float
rows_turned P q =
    record {
      alpha = (turn_of P q.alpha q.gamma).left;
      beta = (turn_of P q.beta q.delta).left;
      gamma = (turn_of P q.alpha q.gamma).right;
      delta = (turn_of P q.beta q.delta).right;
    }

unfoldable pub columns_turned : Parameters → Quad Float → Quad Float
columns_turned P q = quad_of (columns_block P (quad_block q))

unfoldable pub both_turned : Parameters → Parameters → Bool → Quad Float → Quad Float
both_turned R C above q = cond above (columns_turned C (rows_turned R q)) (rows_turned R (columns_turned C q))

unfoldable pub off_diagonal_of : Part → Bool → Angle → Angle → Part
off_diagonal_of p above row column =
    record { matrix = both_turned (of_angle row) (of_angle column) above p.matrix; vectors = columns_turned (of_angle column) p.vectors }

-- What the tile of processor i, from 0, turns its part on the diagonal by, in a run of order n.
abbrev pub quad_parameters : ℕ → ℕ → Quad Float → Parameters
quad_parameters n i q = ruled n i (block_parameters (quad_block q))

-- And whether its pair counts as exact.
abbrev pub quad_found : ℕ → ℕ → Quad Float → Found
quad_found n i q = ruled_found n i (block_found (quad_block q))

-- The work of the tile of processor i in step k; w before it.
unfoldable pub on_diagonal_of : ℕ → ℕ → ℕ → Work → Work
on_diagonal_of n k i w =
    let p = w.cells in
    record {
      cells = record {
        matrix = quad_of (matrix_block (quad_parameters n i p.matrix) (quad_block p.matrix));
        vectors = columns_turned (quad_parameters n i p.matrix) p.vectors;
      };
      row = sent (quad_parameters n i p.matrix);
      column = sent (quad_parameters n i p.matrix);
      counts = counts_after n k (quad_found n i p.matrix) w.counts;
    }

unfoldable pub rotated_of : ℕ → ℕ → Work → ℕ → ℕ → Angle → Angle → Work
rotated_of n k w i j row column =
    cond (eqb i j) (on_diagonal_of n k i w)
    (record { cells = off_diagonal_of w.cells (ltb i j) row column; row = row.tangent; column = column.tangent; counts = w.counts })

-- The cells that a tile works on: its own, p, or where it reads its wires what they bring, q.
abbrev pub taken_of : Action → Part → Part → Part
taken_of a p q = cond (reads_cells a) q p

abbrev pub worked_of : ℕ → ℕ → Action → Work → ℕ → ℕ → Angle → Angle → Work
worked_of n k a w i j row column = cond (rotates a) (rotated_of n k w i j row column) w

-- What a tile begins its work with, on the cells p.
abbrev pub work_before : Tile → Part → Work
work_before x p = record { cells = p; row = x.row_wire; column = x.column_wire; counts = x.counts }

-- The tile with its cells, its parameter wires and its counts as they are after the tick.
abbrev pub tile_worked : Tile → Work → Tile
tile_worked x w = record { cells = w.cells; wires = x.wires; row_wire = w.row; column_wire = w.column; mark = x.mark; counts = w.counts }

-- In step k of a run of order n.
unfoldable pub turned_of : ℕ → ℕ → Action → Tile → Part → ℕ → ℕ → Angle → Angle → Tile
turned_of n k a x q i j row column = tile_worked x (worked_of n k a (work_before x (taken_of a x.cells q)) i j row column)

unfoldable pub quad_not_finite : Quad Float → Bool
quad_not_finite q = not (finite q.alpha) || (not (finite q.beta) || (not (finite q.gamma) || not (finite q.delta)))

unfoldable pub part_not_finite : Part → Bool
part_not_finite p = quad_not_finite p.matrix || quad_not_finite p.vectors
