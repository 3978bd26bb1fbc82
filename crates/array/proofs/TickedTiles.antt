-- The two halves of a tick: the tiles that the code makes are the theory's. Assumes nothing.
use Prim.Native.Nat.{ℕ, zero, suc, ◌+◌, ◌-◌, ◌*◌, ◌/◌, ◌%◌, ◌≤◌, ◌<◌}
use mathlib.Core.Path.{◌≡◌, refl, sym, ap, ◌∙◌}
use mathlib.Core.Bool.{Bool, true, false, cond}
use mathlib.Core.List.{List}
use native.Mathlib.Omega.{arith}
use borrow.Author.Tests.{ltb-false}
use lib.Dec.{eqb, ltb}
use lib.ListN.{get_or}
use lib.Ieee.{Float}
use Rattle.lists.proofs.Tabulated.{get_d_tabulate, tabulate_ext}
use Rattle.lists.proofs.Replaced.{Replaced, replaced_part}
use Rattle.systolic.specs.Slots.{left, right, slot}
use Rattle.systolic.specs.Blocks.{Block, tab, pick}
use Rattle.systolic.specs.Tiles as theory
use Rattle.systolic.specs.Traffic.{rotates, changes_cells}
use Rattle.systolic.specs.Tiles.{joined, turned_tile, settled_tile, new_tile, tick_tile, step_at, action_at, distance}
use Rattle.systolic.specs.Arrays.{nearer, incoming, tick}
use Rattle.systolic.proofs.Wires.{nearer_ok}
use Rattle.systolic.proofs.TurnOrder.{tile_kept, parameter_kept, row_ahead, column_ahead}
use Rattle.sizes.specs.Sizes.{most_processors}
use Rattle.tile_wires.specs.declared.Part.{Part}
use Rattle.tile_wires.specs.Wires.{incoming_part}
use Rattle.rotation.specs.declared.Angle.{Angle}
use Rattle.rotation.specs.Rotation.{angle_of}
use Rattle.runs.specs.declared.Counts.{Counts}
use Rattle.runs.specs.Cells.{Cell, Setting}
use Rattle.tile.specs.declared.Tile.{Tile}
use Rattle.tile.specs.Tiles.{block_of, the_tile, operations, brought_to}
use Rattle.tile.specs.Turned.{turned_of}
use Rattle.tile.proofs.IncomingCells.{brought}
use Rattle.tile.proofs.TileTick.{tile_turned}
use Rattle.array.specs.declared.wiring.Near.{Near}
use Rattle.array.specs.Arrays.{no_tile, tile_at, part_of, tile_of, the_array, is_used, tiles_by, tiles_after, down_of, nearer_of, near_of}
use Rattle.array.specs.Halves.{turned_in, settled_in}
use Rattle.array.proofs.TileRows.{made_at, Made}

-- ---- the code's tile and the theory's
tile_again : (x : Tile) → tile_of (the_tile x) ≡ x
unfolding tile_of part_of the_tile block_of
tile_again x = refl

pub the_tile_of : (x : theory.Tile Cell Float Float Counts) → the_tile (tile_of x) ≡ x
unfolding the_tile tile_of part_of block_of
the_tile_of x = refl

block_again : (b : Block Cell) → block_of (part_of b) ≡ b
unfolding part_of block_of
block_again b = refl

-- ---- the neighbours
module _ (m : ℕ) where
  joined_up : (i : ℕ) → (joined m left i).processor ≡ i - 1
  unfolding joined slot
  joined_up zero = refl
  joined_up (suc i) = omega arith

  joined_down : (i : ℕ) → (joined m right i).processor ≡ down_of m i
  unfolding joined slot down_of
  joined_down i = go (eqb i m)
    where
      go : (b : Bool) → (cond b (slot m right) (slot (suc i) left)).processor ≡ cond b m (suc i)
      go true = unfold slot in refl
      go false = unfold slot in refl

nearer_nearer : (i j : ℕ) → ¬ (i ≡ j) → nearer_of i j ≡ nearer i j
unfolding nearer_of nearer
nearer_nearer i j h = go (ltb i j) (ltb j i) refl refl
  where
    go : (a b : Bool) → ltb i j ≡ a → ltb j i ≡ b → cond a (j - 1) (cond b (suc j) j) ≡ cond a (j - 1) (suc j)
    go true b e f = refl
    go false true e f = refl
    go false false e f = let p : j ≤ i = ltb-false _ _ e in let q : i ≤ j = ltb-false _ _ f in absurd (h (omega arith))

-- ---- one tile turns
-- a tile on the diagonal uses neither tangent
turned_alike : (s : Setting) (x : Tile) (i j k : ℕ) (a : theory.Action) (b : Block Cell) {h h' v v' : Float} → (¬ (i ≡ j) → h ≡ h') → (¬ (i ≡ j) → v ≡ v')
    → turned_tile (operations s) k i j a (the_tile x) b h v ≡ turned_tile (operations s) k i j a (the_tile x) b h' v'
turned_alike s x i j k a b {h} {h'} {v} {v'} e f =
    rw (← (block_again b))
    (sym (tile_turned s x i j a k (part_of b) h v (angle_of h) (angle_of v) (λ d. refl) (λ d. refl))
    ∙ tile_turned s x i j a k (part_of b) h' v' (angle_of h) (angle_of v) (λ d. ap angle_of (e d)) (λ d. ap angle_of (f d)))

module _ (s : Setting) (m K t : ℕ) (l : List Tile) (i j : ℕ) (near : Near) (n : near ≡ near_of m i j) where
  -- what the wires bring, from the tiles that the code reads
  wires_brought : {q : Part}
      → q ≡ incoming_part (get_or l near.corners.alpha no_tile).wires (get_or l near.corners.beta no_tile).wires (get_or l near.corners.gamma no_tile).wires
      (get_or l near.corners.delta no_tile).wires m i j
      → block_of q ≡ incoming m (the_array l) i j
  wires_brought e =
      rw e
      (brought _ _ _ _ m i j
      ∙ rw n
      (unfold near_of in
      (rw (← (joined_up m i), ← (joined_up m j), ← (joined_down m i), ← (joined_down m j))
      (unfold incoming tab pick brought_to the_array the_tile tile_at in refl))))

  row_read : ¬ (i ≡ j) → (get_or l near.row no_tile).row_wire ≡ (the_array l i (nearer i j)).row_wire
  row_read d = rw n (unfold near_of in (rw (nearer_nearer i j d) (unfold the_array the_tile tile_at in refl)))

  column_read : ¬ (j ≡ i) → (get_or l near.column no_tile).column_wire ≡ (the_array l (nearer j i) j).column_wire
  column_read d = rw n (unfold near_of in (rw (nearer_nearer j i d) (unfold the_array the_tile tile_at in refl)))

  pub turns : {x : Tile} {q : Part} {row column : Angle} → (¬ (i ≡ j) → row ≡ angle_of (get_or l near.row no_tile).row_wire)
      → (¬ (j ≡ i) → column ≡ angle_of (get_or l near.column no_tile).column_wire)
      → q ≡ incoming_part (get_or l near.corners.alpha no_tile).wires (get_or l near.corners.beta no_tile).wires (get_or l near.corners.gamma no_tile).wires
      (get_or l near.corners.delta no_tile).wires m i j
      → x ≡ turned_of s.order (step_at (distance i j) t) (action_at K (distance i j) t) (get_or l (i * most_processors + j) no_tile) q i j row column
      → x ≡ tile_of (turned_in s (m + 1) K t (the_array l) i j)
  turns {x} {q} {row} {column} e f g z =
      let last : m + 1 - 1 ≡ m = omega arith in
      sym (tile_again x)
      ∙ ap tile_of
      (ap the_tile z
      ∙ tile_turned s (get_or l (i * most_processors + j) no_tile) i j _ (step_at (distance i j) t) q _ _ row column
      (λ d. e d ∙ ap angle_of (row_read d)) (λ d. f (λ y. d (sym y)) ∙ ap angle_of (column_read (λ y. d (sym y))))
      ∙ rw (wires_brought g, last) (unfold the_array tile_at in refl))

-- ---- all tiles turn, one after the other
at_place : (l : List Tile) (k : ℕ) → tile_at l (k / most_processors) (k % most_processors) ≡ get_or l k no_tile
unfolding tile_at
at_place l k = let e : k / most_processors * most_processors + k % most_processors ≡ k = omega arith in rw e

module _ (s : Setting) (N K t : ℕ) (l : List Tile) where
  abbrev turn_at : ℕ → ℕ → theory.Tile Cell Float Float Counts
  turn_at = turned_in s N K t (the_array l)

  -- a tile whose cells don't change
  pub not_turned : (i j : ℕ) → changes_cells (action_at K (distance i j) t) ≡ false → tile_at l i j ≡ tile_of (turn_at i j)
  unfolding the_array
  not_turned i j r = sym (ap tile_of (tile_kept (operations s) (step_at (distance i j) t) i j _ _ _ _ _ r) ∙ tile_again (tile_at l i j))

  -- a part of a tile that its turn leaves alone
  part_stays : {B : Type 0} (g : Tile → B) (k : ℕ)
      → g (tile_of (turn_at (k / most_processors) (k % most_processors))) ≡ g (tile_at l (k / most_processors) (k % most_processors))
      → g (made_at N turn_at l k) ≡ g (get_or l k no_tile)
  part_stays g k e = go (is_used N k)
    where
      go : (b : Bool) → g (cond b (tile_of (turn_at (k / most_processors) (k % most_processors))) (get_or l k no_tile)) ≡ g (get_or l k no_tile)
      go true = e ∙ ap g (at_place l k)
      go false = refl

  module _ {k : ℕ} {cur : List Tile} (h : Replaced no_tile (made_at N turn_at l) l k cur) where
    wires_stay : (p : ℕ) → (get_or cur p no_tile).wires ≡ (get_or l p no_tile).wires
    wires_stay p = replaced_part (λ x. x.wires) k cur p (part_stays (λ x. x.wires) p (unfold tile_of part_of the_array the_tile block_of in refl)) h

    -- the parameter wires of a tile that does not rotate
    module _ (i j : ℕ) (o : j < most_processors) (r : rotates (action_at K (distance i j) t) ≡ false) where
      placed : {B : Type 0} (g : Tile → B) → g (tile_of (turn_at i j)) ≡ g (tile_at l i j) → g (tile_at cur i j) ≡ g (tile_at l i j)
      unfolding tile_at
      placed g e =
          let a : (i * most_processors + j) / most_processors ≡ i = omega arith in
          let b : (i * most_processors + j) % most_processors ≡ j = omega arith in
          replaced_part g k cur (i * most_processors + j) (part_stays g (i * most_processors + j) (rw (a, b) e)) h

      pub row_stays : (tile_at cur i j).row_wire ≡ (tile_at l i j).row_wire
      row_stays = placed (λ x. x.row_wire) (unfold tile_of the_array the_tile in (parameter_kept _ i j _ _ _ _ _ r))

      pub column_stays : (tile_at cur i j).column_wire ≡ (tile_at l i j).column_wire
      column_stays = placed (λ x. x.column_wire) (unfold tile_of the_array the_tile in (parameter_kept _ i j _ _ _ _ _ r))

    -- a tile whose turn is to come turns as if none had turned
    module _ (i j : ℕ) (hi : i < N) (hj : j < N) (few : N ≤ most_processors) (r : changes_cells (action_at K (distance i j) t) ≡ true) where
      wires_same : incoming (N - 1) (the_array cur) i j ≡ incoming (N - 1) (the_array l) i j
      unfolding incoming tab pick the_array the_tile tile_at
      wires_same =
          rw (
            wires_stay ((joined (N - 1) left i).processor * most_processors + (joined (N - 1) left j).processor),
            wires_stay ((joined (N - 1) left i).processor * most_processors + (joined (N - 1) right j).processor),
            wires_stay ((joined (N - 1) right i).processor * most_processors + (joined (N - 1) left j).processor),
            wires_stay ((joined (N - 1) right i).processor * most_processors + (joined (N - 1) right j).processor),
          )

      row_same : ¬ (i ≡ j) → (the_array cur i (nearer i j)).row_wire ≡ (the_array l i (nearer i j)).row_wire
      unfolding the_array the_tile
      row_same d =
          let b = (nearer_ok (N - 1) i j (omega arith) (omega arith) d).0 in row_stays i (nearer i j) (omega arith) (row_ahead K t i j d r)

      column_same : ¬ (i ≡ j) → (the_array cur (nearer j i) j).column_wire ≡ (the_array l (nearer j i) j).column_wire
      unfolding the_array the_tile
      column_same d = column_stays (nearer j i) j (omega arith) (column_ahead K t i j d r)

      pub turns_as_first : k ≤ i * most_processors + j → turned_in s N K t (the_array cur) i j ≡ turn_at i j
      unfolding the_array tile_at
      turns_as_first o =
          rw (ap the_tile (h.kept (i * most_processors + j) o), wires_same)
          (turned_alike s (tile_at l i j) i j _ _ _ (unfold the_array in row_same) (unfold the_array in column_same))

-- ---- all tiles set their wires
module _ (s : Setting) (N K t : ℕ) (l : List Tile) where
  pub settles : (i j : ℕ) {cur : List Tile} {x : Tile} → Made N (settled_in s N K t (the_array l)) l i j cur
      → the_tile x ≡ settled_tile (operations s) (N - 1) i j (action_at K (distance i j) t) (the_tile (get_or cur (i * most_processors + j) no_tile))
      → x ≡ tile_of (settled_in s N K t (the_array l) i j)
  unfolding the_array tile_at
  settles i j {cur} {x} h e = sym (tile_again x) ∙ ap tile_of (e ∙ rw (h.kept (i * most_processors + j) (omega arith)))

-- ---- a tick is both
module _ (s : Setting) (N K t : ℕ) (l : List Tile) where
  abbrev first_half : List Tile
  first_half = tiles_by N (turned_in s N K t (the_array l)) l

  pub both_halves : tiles_by N (settled_in s N K t (the_array first_half)) first_half ≡ tiles_after s N K t l
  unfolding tiles_after
  both_halves = tabulate_ext (most_processors * most_processors) _ _ (λ k h. go k h (is_used N k) refl)
    where
      stands : (k : ℕ) → k < most_processors * most_processors → get_or first_half k no_tile ≡ made_at N (turned_in s N K t (the_array l)) l k
      stands k h = get_d_tabulate (most_processors * most_processors) (made_at N (turned_in s N K t (the_array l)) l) k no_tile h

      turned_there : (k : ℕ) → k < most_processors * most_processors → is_used N k ≡ true
          → the_array first_half (k / most_processors) (k % most_processors)
          ≡ turned_in s N K t (the_array l) (k / most_processors) (k % most_processors)
      turned_there k h u = unfold the_array in (ap the_tile (at_place first_half k ∙ stands k h ∙ rw u)) ∙ the_tile_of _

      go : (k : ℕ) → k < most_processors * most_processors → (b : Bool) → is_used N k ≡ b
          → cond b (tile_of (settled_in s N K t (the_array first_half) (k / most_processors) (k % most_processors))) (get_or first_half k no_tile)
          ≡ cond b (tile_of (tick (operations s) (N - 1) K t (the_array l) (k / most_processors) (k % most_processors))) (get_or l k no_tile)
      go k h true u = rw (turned_there k h u) (unfold tick tick_tile new_tile in refl)
      go k h false u = stands k h ∙ rw u
