-- The tile of the code as the theory's tile, whose cells are an entry of the matrix and one of the eigenvectors. Definitions only.
use Rattle.float64.specs.Values.{plus_zero}
use Rattle.std.specs.Prelude.{Float, ℕ}
use Rattle.systolic.specs.Slots.{left, right, ordered_line}
use Rattle.systolic.specs.Blocks.{Block, cell as pickCell}
use Rattle.systolic.specs.Synchronous.{Operations}
use Rattle.systolic.specs.Sequential.{operations_of}
use Rattle.systolic.specs.Tiles as theory
use Rattle.systolic.specs.Tiles.{joined}
use Rattle.tile_wires.specs.declared.Quad.{Quad}
use Rattle.tile_wires.specs.declared.Part.{Part}
use Rattle.sizes.specs.Sizes.{first_line}
use Rattle.runs.specs.declared.Counts.{Counts}
use Rattle.runs.specs.Counts.{counts}
use Rattle.runs.specs.Cells.{Cell, cell, cells_of, Setting, rules}
use Rattle.tile.specs.declared.Tile.{Tile}

-- Four values of the code as a block, and a block as four values.
abbrev pub quad_block : Quad Float → Block Float
quad_block q = record { α = q.alpha; β = q.beta; γ = q.gamma; δ = q.delta }

abbrev pub quad_of : Block Float → Quad Float
quad_of b = record { alpha = b.α; beta = b.β; gamma = b.γ; delta = b.δ }

unfoldable pub block_of : Part → Block Cell
block_of p = cells_of (quad_block p.matrix) (quad_block p.vectors)

unfoldable pub the_tile : Tile → theory.Tile Cell Float Float Counts
the_tile x =
    record {
      cells = block_of x.cells;
      wires = block_of x.wires;
      row_wire = x.row_wire;
      column_wire = x.column_wire;
      mark = x.mark;
      kept = x.counts;
    }

-- What the tiles do, by the rules of any run. A tick does not look at the start.
unfoldable pub operations : Setting → Operations Cell Float Float Counts
operations s =
    operations_of (rules s) (ordered_line (first_line s.order)) (λ r c. cell plus_zero plus_zero) (cell plus_zero plus_zero) plus_zero plus_zero
    (counts 0 0)

-- What the wires bring to tile (i, j), where a, b, c and d are the wires of the tiles that its corners are joined with.
unfoldable pub brought_to : ℕ → ℕ → ℕ → Block Cell → Block Cell → Block Cell → Block Cell → Block Cell
brought_to m i j a b c d =
    record {
      α = pickCell (joined m left i).side (joined m left j).side a;
      β = pickCell (joined m left i).side (joined m right j).side b;
      γ = pickCell (joined m right i).side (joined m left j).side c;
      δ = pickCell (joined m right i).side (joined m right j).side d;
    }
