-- The tile at a place in use at the start, and what it begins with. Assumes nothing.
use Prim.Native.Nat.{ℕ, zero, suc, ◌+◌, ◌*◌, ◌<◌, ◌≤◌}
use mathlib.Core.Path.{◌≡◌}
use mathlib.Core.List.{List}
use native.Mathlib.Omega.{arith}
use lib.ListN.{length}
use lib.Ieee.{Float}
use Rattle.tile_wires.specs.declared.Quad.{Quad}
use Rattle.sizes.specs.Sizes.{processors_of, first_line}
use Rattle.matrix.specs.Matrix.{at, entry_of}
use Rattle.matrix.proofs.EntryPlaces.{entry_in}
use Rattle.runs.specs.State.{identity, bordered, start_of}
use Rattle.tile.specs.declared.Tile.{Tile}
use Rattle.tile_start.specs.Beginning.{starting_tile, quad_at, part_at, start_tile}

pub in_use : (n : ℕ) (l : List Float) (i j : ℕ) {first : ℕ} {q r : Quad Float} {t : Tile} → i < processors_of n → j < processors_of n → first ≡ first_line n
    → q ≡ quad_at (bordered (entry_of n l)) (2 * i + first) (2 * j + first) → r ≡ quad_at (bordered identity) (2 * i + first) (2 * j + first)
    → t ≡ starting_tile (record { matrix = q; vectors = r }) → t ≡ start_tile n l i j
unfolding start_tile part_at
in_use n l i j h k z e f g = grind arith

-- ---- a tile in use begins with what a run begins with
module _ (n : ℕ) (l : List Float) (long : length l ≡ n * n) where
  entry_read : (r c : ℕ) → r ≤ n → c ≤ n → bordered (entry_of n l) r c ≡ bordered (at n l) r c
  unfolding bordered
  entry_read zero c hr hc = grind arith
  entry_read (suc r) zero hr hc = grind arith
  entry_read (suc r) (suc c) hr hc = grind (arith, entry_in n r c l long (omega arith) (omega arith))

  entries_read : (r c : ℕ) → r < n → c < n → quad_at (bordered (entry_of n l)) r c ≡ quad_at (bordered (at n l)) r c
  unfolding quad_at
  entries_read r c hr hc = grind (arith, entry_read)

  pub starts_with : (i j : ℕ) → i < processors_of n → j < processors_of n → start_tile n l i j
      ≡ (let r = 2 * i + first_line n in
      let c = 2 * j + first_line n in
      starting_tile (record { matrix = quad_at (start_of n l).matrix r c; vectors = quad_at (start_of n l).vectors r c }))
  unfolding start_tile part_at start_of
  starts_with i j hi hj = grind (arith, entries_read)
