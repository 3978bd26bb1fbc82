-- What a row turn and a column turn by the rules of a run make of the four cells of a block. Assumes nothing.
use mathlib.Core.Path.{◌≡◌, refl}
use lib.Ieee.{Float}
use Rattle.systolic.specs.Blocks.{Block, cell as corner, tab}
use Rattle.systolic.specs.Sequential.{turn_block_rows, turn_block_columns}
use Rattle.rotation.specs.Rotation.{of_tangent, turn_of}
use Rattle.runs.specs.Cells.{Cell, cell, Setting, rules}

module _ (s : Setting) (t : Float) (b : Block Cell) where
  -- the matrix alone
  pub rows_turned_lem : turn_block_rows (rules s) t b
      ≡ record {
        α = cell (turn_of (of_tangent t) b.α.entry b.γ.entry).left b.α.vector;
        β = cell (turn_of (of_tangent t) b.β.entry b.δ.entry).left b.β.vector;
        γ = cell (turn_of (of_tangent t) b.α.entry b.γ.entry).right b.γ.vector;
        δ = cell (turn_of (of_tangent t) b.β.entry b.δ.entry).right b.δ.vector;
      }
  unfolding turn_block_rows rules tab corner
  rows_turned_lem = refl

  -- matrix and eigenvectors
  pub columns_turned_lem : turn_block_columns (rules s) t b
      ≡ record {
        α = cell (turn_of (of_tangent t) b.α.entry b.β.entry).left (turn_of (of_tangent t) b.α.vector b.β.vector).left;
        β = cell (turn_of (of_tangent t) b.α.entry b.β.entry).right (turn_of (of_tangent t) b.α.vector b.β.vector).right;
        γ = cell (turn_of (of_tangent t) b.γ.entry b.δ.entry).left (turn_of (of_tangent t) b.γ.vector b.δ.vector).left;
        δ = cell (turn_of (of_tangent t) b.γ.entry b.δ.entry).right (turn_of (of_tangent t) b.γ.vector b.δ.vector).right;
      }
  unfolding turn_block_columns rules tab corner
  columns_turned_lem = refl
