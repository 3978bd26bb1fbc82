-- What a pair of lines does, as rules of the theory: a cell is an entry of the matrix and one of the eigenvectors. The wires along rows and
-- columns carry the tangent, and a processor counts its turns and its rounded pairs. Definitions only.
use Rattle.std.specs.Prelude.{ℕ, not, ◌||◌, Float}
use Rattle.float64.specs.Values.{finite}
use Rattle.systolic.specs.Slots.{Side, left, right}
use Rattle.systolic.specs.Blocks.{Block}
use Rattle.systolic.specs.Sequential.{Rules}
use Rattle.rotation.specs.declared.Parameters.{Parameters}
use Rattle.rotation.specs.declared.Found.{Found}
use Rattle.rotation.specs.declared.Sides.{Sides}
use Rattle.rotation.specs.Rotation.{of_tangent, sent, turn_of}
use Rattle.runs.specs.State.{State}
use Rattle.runs.specs.declared.Counts.{Counts}
use Rattle.runs.specs.Counts.{counts_after}
use Rattle.runs.specs.Blocks.{block_parameters, block_found, ruled, ruled_found, matrix_block, columns_block}

pub record Cell : Type 0 where
  pub entry : Float
  pub vector : Float

abbrev pub cell : Float → Float → Cell
cell x e = record { entry = x; vector = e }

unfoldable pub cell_of : State → ℕ → ℕ → Cell
cell_of X r c = cell (X.matrix r c) (X.vectors r c)

-- One of two values.
abbrev pub side_of : Side → Sides → Float
side_of left x = x.left
side_of right x = x.right

abbrev pub sides : Float → Float → Sides
sides x y = record { left = x; right = y }

-- The entries of the matrix and those of the eigenvectors in a block of cells, and the block of both.
abbrev pub block_entries : Block Cell → Block Float
block_entries b = record { α = b.α.entry; β = b.β.entry; γ = b.γ.entry; δ = b.δ.entry }

abbrev pub block_vectors : Block Cell → Block Float
block_vectors b = record { α = b.α.vector; β = b.β.vector; γ = b.γ.vector; δ = b.δ.vector }

abbrev pub cells_of : Block Float → Block Float → Block Cell
cells_of x e = record { α = cell x.α e.α; β = cell x.β e.β; γ = cell x.γ e.γ; δ = cell x.δ e.δ }

-- A diagonal block after its rotation.
unfoldable pub block_turned : Parameters → Block Cell → Block Cell
block_turned P b = cells_of (matrix_block P (block_entries b)) (columns_block P (block_vectors b))

-- What a run is set to: its order.
pub record Setting : Type 0 where
  pub order : ℕ

abbrev pub setting : ℕ → Setting
setting n = record { order = n }

-- What processor i, from 0, turns the block of its pair by.
abbrev pub ruled_block : Setting → ℕ → Block Cell → Parameters
ruled_block s i b = ruled s.order i (block_parameters (block_entries b))

-- And whether its pair counts as exact.
abbrev pub found_block : Setting → ℕ → Block Cell → Found
found_block s i b = ruled_found s.order i (block_found (block_entries b))

unfoldable pub rules : Setting → Rules Cell Float Float Counts
rules s =
    record {
      diagonal = λ k i b. block_turned (ruled_block s i b) b;
      sends_row = λ k i b. sent (ruled_block s i b);
      sends_column = λ k i b. sent (ruled_block s i b);
      row_turn = λ t s x y. cell (side_of s (turn_of (of_tangent t) x.entry y.entry)) (side_of s (sides x.vector y.vector));
      column_turn = λ t s x y. cell (side_of s (turn_of (of_tangent t) x.entry y.entry)) (side_of s (turn_of (of_tangent t) x.vector y.vector));
      fails = λ x. not (finite x.entry) || not (finite x.vector);
      keeps = λ k i b d. counts_after s.order k (found_block s i b) d;
    }
