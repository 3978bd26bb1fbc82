-- A block is the table of its four cells. Assumes nothing.
use mathlib.Core.Path.{◌≡◌, refl}
use Rattle.systolic.specs.Slots.{Side, left, right}
use Rattle.systolic.specs.Blocks.{Block, cell, tab}

pub cell_tab : {X : Type 0} (f : Side → Side → X) (r s : Side) → cell r s (tab f) ≡ f r s
unfolding cell tab
cell_tab f left left = refl
cell_tab f left right = refl
cell_tab f right left = refl
cell_tab f right right = refl

pub tab_ext : {X : Type 0} (f g : Side → Side → X) → ((r s : Side) → f r s ≡ g r s) → tab f ≡ tab g
unfolding tab
tab_ext f g e = λ i. record { α = e left left i; β = e left right i; γ = e right left i; δ = e right right i }

pub tab_cell : {X : Type 0} (b : Block X) → tab (λ r s. cell r s b) ≡ b
unfolding tab cell
tab_cell b = refl
