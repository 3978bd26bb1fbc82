-- What the wires bring to a tile, by the tests of the code. Assumes nothing.
use Prim.Native.Nat.{ℕ, zero, suc}
use mathlib.Core.Path.{◌≡◌, refl}
use mathlib.Core.Bool.{Bool, cond}
use native.Mathlib.Omega.{arith}
use borrow.Author.Tests.{lt-ltb}
use lib.Dec.{eqb, ltb}
use Rattle.systolic.specs.Slots.{Side, left, right, slot}
use Rattle.systolic.specs.Blocks.{cell}
use Rattle.systolic.specs.Tiles.{joined}
use Rattle.tile_wires.specs.declared.Part.{Part}
use Rattle.tile_wires.specs.Wires.{corner_of, incoming_quad, incoming_part}
use Rattle.runs.specs.Cells.{Cell}
use Rattle.tile.specs.Tiles.{block_of, brought_to}

abbrev pub side_by : Bool → Side
side_by b = cond b right left

module _ (m : ℕ) where
  joined_left : (i : ℕ) → (joined m left i).side ≡ side_by (ltb 0 i)
  unfolding joined slot
  joined_left zero = refl
  joined_left (suc i) = rw (lt-ltb 0 (suc i) (omega arith))

  joined_right : (i : ℕ) → (joined m right i).side ≡ side_by (eqb i m)
  unfolding joined slot
  joined_right i = grind arith

-- the corner of a part is a cell of its block
pub corner_cell : (p : Part) (lower across : Bool) → ◌≡◌ {A = Cell}
    (record { entry = corner_of lower across p.matrix; vector = corner_of lower across p.vectors })
    (cell (side_by lower) (side_by across) (block_of p))
unfolding corner_of cell block_of
corner_cell p lower across = grind arith

pub brought : (a b c d : Part) (m i j : ℕ) → block_of (incoming_part a b c d m i j) ≡ brought_to m i j (block_of a) (block_of b) (block_of c) (block_of d)
brought a b c d m i j =
    unfold incoming_part incoming_quad brought_to in
    (rw (joined_left m i, joined_left m j, joined_right m i, joined_right m j)
    (whole (corner_cell a (ltb 0 i) (ltb 0 j)) (corner_cell b (ltb 0 i) (eqb j m)) (corner_cell c (eqb i m) (ltb 0 j)) (corner_cell d (eqb i m) (eqb j m))))
  where
    whole : {p : Part} {x y z w : Cell} → record { entry = p.matrix.alpha; vector = p.vectors.alpha } ≡ x
        → record { entry = p.matrix.beta; vector = p.vectors.beta } ≡ y
        → record { entry = p.matrix.gamma; vector = p.vectors.gamma } ≡ z → record { entry = p.matrix.delta; vector = p.vectors.delta } ≡ w
        → block_of p ≡ record { α = x; β = y; γ = z; δ = w }
    whole e f g h = unfold block_of in (rw (e, f, g, h))
