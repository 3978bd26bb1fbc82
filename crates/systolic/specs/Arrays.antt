-- Document 01, "The array": all tiles, joined. Definitions only.
use Rattle.std.specs.Prelude.{ℕ, zero, suc, ◌-◌, false, cond, ltb}
use Rattle.systolic.specs.Blocks.{Block, tab, pick}
use Rattle.systolic.specs.Synchronous.{Operations}
use Rattle.systolic.specs.Tiles.{Tile, joined, tick_tile}

-- the neighbour of j that is one nearer to i
unfoldable pub nearer : ℕ → ℕ → ℕ
nearer i j = cond (ltb i j) (j - 1) (suc j)

-- what the cell wires bring to tile (i, j)
unfoldable pub incoming : {X H W D : Type 0} → ℕ → (ℕ → ℕ → Tile X H W D) → ℕ → ℕ → Block X
incoming m A i j = tab (λ h g. pick (λ i' j'. (A i' j').wires) (joined m h i) (joined m g j))

-- One tick: every tile reads the wires as they were before it.
unfoldable pub tick : {X H W D : Type 0} → Operations X H W D → ℕ → ℕ → ℕ → (ℕ → ℕ → Tile X H W D) → ℕ → ℕ → Tile X H W D
tick S m K t A i j = tick_tile S m K t i j (A i j) (incoming m A i j) (A i (nearer i j)).row_wire (A (nearer j i) j).column_wire

-- after t ticks, those numbered 0 to t - 1
unfoldable pub array_after : {X H W D : Type 0} → Operations X H W D → ℕ → ℕ → ℕ → ℕ → ℕ → Tile X H W D
array_after S m K zero i j =
    record { cells = S.initial i j; wires = tab (λ r s. S.wire_start); row_wire = S.row_start; column_wire = S.column_start; mark = false; kept = S.kept_start }
array_after S m K (suc t) i j = tick S m K t (array_after S m K t) i j
