-- What the operations of the tiles are, by the rules of any run. Assumes nothing.
use Prim.Native.Nat.{ℕ}
use mathlib.Core.Path.{◌≡◌, refl}
use mathlib.Core.Bool.{Bool, not, cond, ◌||◌}
use lib.Dec.{eqb, ltb}
use lib.Ieee.{Float}
use Rattle.float64.specs.Values.{finite}
use Rattle.systolic.specs.Blocks.{Block}
use Rattle.systolic.specs.Sequential.{turn_block_rows, turn_block_columns, any_fails, operations_of}
use Rattle.systolic.specs.Tiles.{turn_tile}
use Rattle.rotation.specs.Rotation.{sent}
use Rattle.runs.specs.declared.Counts.{Counts}
use Rattle.runs.specs.Counts.{counts_after}
use Rattle.runs.specs.Cells.{Cell, block_turned, Setting, ruled_block, found_block, rules}
use Rattle.tile.specs.Tiles.{operations}

module _ (s : Setting) (k i : ℕ) (b : Block Cell) where
  pub tile_turns : (j : ℕ) (h v : Float) → turn_tile (operations s) k i j h v b
      ≡ cond (eqb i j) (block_turned (ruled_block s i b) b)
      (cond (ltb i j) (turn_block_columns (rules s) v (turn_block_rows (rules s) h b)) (turn_block_rows (rules s) h (turn_block_columns (rules s) v b)))
  unfolding turn_tile operations operations_of rules
  tile_turns j h v = refl

  pub tile_sends : ((operations s).sends_row k i b ≡ sent (ruled_block s i b)) × ((operations s).sends_column k i b ≡ sent (ruled_block s i b))
  unfolding operations operations_of rules
  tile_sends = (refl, refl)

  pub tile_keeps : (d : Counts) → (operations s).keeps k i b d ≡ counts_after s.order k (found_block s i b) d
  unfolding operations operations_of rules
  tile_keeps d = refl

abbrev cell_fails : Cell → Bool
cell_fails x = not (finite x.entry) || not (finite x.vector)

pub tile_fails : (s : Setting) (b : Block Cell)
    → (operations s).fails b ≡ (cell_fails b.α || cell_fails b.β || cell_fails b.γ || cell_fails b.δ)
unfolding operations operations_of any_fails rules
tile_fails s b = refl
