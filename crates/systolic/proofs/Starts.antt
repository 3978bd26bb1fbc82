-- A tick does not look at what the array started with. Assumes nothing.
use Prim.Native.Nat.{ℕ}
use mathlib.Core.Path.{◌≡◌, refl}
use Rattle.systolic.specs.Slots.{Slot}
use Rattle.systolic.specs.Blocks.{Block}
use Rattle.systolic.specs.Sequential.{Rules, operations_of}
use Rattle.systolic.specs.Tiles.{distance, Tile, Action, idle, first, rotate, phase1, phase2}
use Rattle.systolic.specs.Tiles.{final, step_at, action_at, turn_tile, new_cells, new_parameter, new_tile, tick_tile}
use Rattle.systolic.specs.Arrays.{incoming, tick}

module _ {X H W D : Type 0} (R : Rules X H W D) (l l' : Slot → ℕ) (M M' : ℕ → ℕ → X) (x x' : X) (h h' : H) (w w' : W) (d d' : D) where
  tile_any_start : (m k i j : ℕ) (a : Action) (o : Tile X H W D) (b : Block X) (p : H) (v : W)
      → new_tile (operations_of R l M x h w d) m k i j a o b p v ≡ new_tile (operations_of R l' M' x' h' w' d') m k i j a o b p v
  unfolding new_tile new_cells new_parameter turn_tile operations_of
  tile_any_start m k i j idle o b p v = refl
  tile_any_start m k i j first o b p v = refl
  tile_any_start m k i j rotate o b p v = refl
  tile_any_start m k i j phase1 o b p v = refl
  tile_any_start m k i j phase2 o b p v = refl
  tile_any_start m k i j final o b p v = refl

  pub tick_any_start : (m K t : ℕ) (A : ℕ → ℕ → Tile X H W D) (i j : ℕ)
      → tick (operations_of R l M x h w d) m K t A i j ≡ tick (operations_of R l' M' x' h' w' d') m K t A i j
  unfolding tick tick_tile
  tick_any_start m K t A i j = tile_any_start m (step_at (distance i j) t) i j (action_at K (distance i j) t) (A i j) (incoming m A i j) _ _
