-- Document 01, "Neighbourhood": what two arrays have to agree in. Definitions only.
use Rattle.std.specs.Prelude.{ℕ, ◌-◌, ◌≡◌, List}
use Rattle.systolic.specs.Slots.{Side}
use Rattle.systolic.specs.Blocks.{pick}
use Rattle.systolic.specs.Tiles.{joined}
use Rattle.systolic.specs.Arrays.{nearer}
use Rattle.tile.specs.declared.Tile.{Tile}
use Rattle.array.specs.Arrays.{tile_at, the_array}

-- Two arrays agree in the tile in row i and column j and in the wires that lead to it, in the parameter wires where P holds.
pub record AgreeWhere (P : Type 0) (N : ℕ) (x y : List Tile) (i j : ℕ) : Type 0 where
  pub tile : tile_at x i j ≡ tile_at y i j
  pub wires : (h g : Side)
      → pick (λ r c. (the_array x r c).wires) (joined (N - 1) h i) (joined (N - 1) g j)
      ≡ pick (λ r c. (the_array y r c).wires) (joined (N - 1) h i) (joined (N - 1) g j)
  pub row : P → (tile_at x i (nearer i j)).row_wire ≡ (tile_at y i (nearer i j)).row_wire
  pub column : P → (tile_at x (nearer j i) j).column_wire ≡ (tile_at y (nearer j i) j).column_wire

-- No parameter wire leads to a tile on the diagonal.
abbrev pub Agree : ℕ → List Tile → List Tile → ℕ → ℕ → Type 0
Agree N x y i j = AgreeWhere (¬ (i ≡ j)) N x y i j
