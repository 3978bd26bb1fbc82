-- The 2 by 2 part of a matrix at the row registers of one processor and the column registers of another. Definitions only.
use Rattle.std.specs.Prelude.{ℕ}
use Rattle.systolic.specs.Slots.{Side, left, right, Slot}

-- α β / γ δ, row by row. The cells may be of any type.
pub record Block (X : Type 0) : Type 0 where
  pub α : X
  pub β : X
  pub γ : X
  pub δ : X

-- the cell at a row register and a column register
unfoldable pub cell : {X : Type 0} → Side → Side → Block X → X
cell left left b = b.α
cell left right b = b.β
cell right left b = b.γ
cell right right b = b.δ

unfoldable pub tab : {X : Type 0} → (Side → Side → X) → Block X
tab f = record { α = f left left; β = f left right; γ = f right left; δ = f right right }

-- of all blocks, the cell at a row slot and a column slot
unfoldable pub pick : {X : Type 0} → (ℕ → ℕ → Block X) → Slot → Slot → X
pick s ρ κ = cell ρ.side κ.side (s ρ.processor κ.processor)
