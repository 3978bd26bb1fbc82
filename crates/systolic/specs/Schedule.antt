-- The wiring and the schedule as the papers print them: document 000, Algorithm Interchange and the connections before it, and document 003,
-- Program 3. Processors are numbered from 0 here. Definitions only; theorems read the array's definition back as these tables.
use Rattle.std.specs.Prelude.{ℕ, suc, ◌-◌, Bool, false, cond, ◌||◌, ◌&&◌, ltb, leb, eqb}
use Rattle.systolic.specs.Slots.{Side, left, right}
use Rattle.systolic.specs.Blocks.{Block}

-- Algorithm Interchange: out α, out β / out γ, out δ.
unfoldable pub interchange : {X : Type 0} → ℕ → ℕ → Block X → Block X
interchange i j x =
    cond (eqb i 0 && eqb j 0) (record { α = x.α; β = x.β; γ = x.γ; δ = x.δ })
    (cond (eqb i 0) (record { α = x.β; β = x.α; γ = x.δ; δ = x.γ })
    (cond (eqb j 0) (record { α = x.γ; β = x.δ; γ = x.α; δ = x.β }) (record { α = x.δ; β = x.γ; γ = x.β; δ = x.α })))

-- Where a wire leads: the tile's row and column, and which of its inputs.
pub record Input : Type 0 where
  pub row : ℕ
  pub column : ℕ
  pub down : Side
  pub across : Side

abbrev pub input : ℕ → ℕ → Side → Side → Input
input i j r s = record { row = i; column = j; down = r; across = s }

-- out β is printed in document 000; the other three are its mirrors.
unfoldable pub leads_to : ℕ → Side → Side → ℕ → ℕ → Input
leads_to m left left i j =
    cond (eqb i 0) (cond (eqb j 0) (input i j left left) (input i (j - 1) left right))
    (cond (eqb j 0) (input (i - 1) j right left) (input (i - 1) (j - 1) right right))
leads_to m left right i j =
    cond (eqb i 0) (cond (eqb j m) (input i j left right) (input i (suc j) left left))
    (cond (eqb j m) (input (i - 1) j right right) (input (i - 1) (suc j) right left))
leads_to m right left i j =
    cond (eqb i m) (cond (eqb j 0) (input i j right left) (input i (j - 1) right right))
    (cond (eqb j 0) (input (suc i) j left left) (input (suc i) (j - 1) left right))
leads_to m right right i j =
    cond (eqb i m) (cond (eqb j m) (input i j right right) (input i (suc j) right left))
    (cond (eqb j m) (input (suc i) j left right) (input (suc i) (suc j) left left))

-- Program 3: whether tile (i, j) sets the wire by the corner (r, s) in the phase T - Δ = 0, 1, 2 modulo 3.
unfoldable pub set_in_phase0 : ℕ → Side → Side → ℕ → ℕ → Bool
set_in_phase0 m left left i j = false
set_in_phase0 m left right i j = ltb j i
set_in_phase0 m right left i j = ltb i j
set_in_phase0 m right right i j = false

unfoldable pub set_in_phase1 : ℕ → Side → Side → ℕ → ℕ → Bool
set_in_phase1 m left left i j = eqb i 0 || eqb j 0
set_in_phase1 m left right i j = false
set_in_phase1 m right left i j = false
set_in_phase1 m right right i j = eqb i m || eqb j m

unfoldable pub set_in_phase2 : ℕ → Side → Side → ℕ → ℕ → Bool
set_in_phase2 m left left i j = ltb 0 i && ltb 0 j
set_in_phase2 m left right i j = leb i j
set_in_phase2 m right left i j = leb j i
set_in_phase2 m right right i j = ltb i m && ltb j m
