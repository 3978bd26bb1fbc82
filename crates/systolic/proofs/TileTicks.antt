-- What a tick leaves in a tile: its cells, its parameter wires, its cell wires, its mark and what it keeps. Assumes nothing.
use Prim.Native.Nat.{ℕ, ◌+◌, ◌*◌, ◌≤◌, ◌<◌}
use mathlib.Core.Path.{◌≡◌, refl, ap, ◌∙◌}
use mathlib.Core.Bool.{Bool, true, false, cond, ◌||◌}
use native.Mathlib.Omega.{arith}
use borrow.Author.Tests.{ne_eqb}
use lib.Dec.{eqb}
use Rattle.systolic.specs.Slots.{Side, slot}
use Rattle.systolic.specs.Blocks.{Block, cell, pick}
use Rattle.systolic.specs.Synchronous.{Operations}
use Rattle.systolic.specs.Tiles.{Tile, distance, joined, phase_of, first, rotate, turn_tile, new_cells, new_parameter, new_wires, new_tile, tick_tile}
use Rattle.systolic.specs.Arrays.{nearer, incoming, tick}
use Rattle.systolic.specs.Traffic.{sets_wire, receives}
use Rattle.systolic.specs.Schedule.{interchange, leads_to}
use Rattle.systolic.proofs.Cells.{cell_tab, tab_ext, tab_cell}
use Rattle.systolic.proofs.Wires.{phase_lt}
use Rattle.systolic.proofs.Clock.{view, at_writes, step_at_lem, rotation_at, reads_last, no_rotation, no_change, sets_none, receiving}
use Rattle.systolic.proofs.PrintedTables.{values_printed, joined_twice, leads_printed}
use Rattle.systolic.proofs.TurnOrder.{tile_kept, parameter_kept}

-- ---- where a wire leads
pub wire_arrives : {X H W D : Type 0} (m : ℕ) (A : ℕ → ℕ → Tile X H W D) (r s : Side) (i j : ℕ) → i ≤ m → j ≤ m
    → cell (leads_to m r s i j).down (leads_to m r s i j).across (incoming m A (leads_to m r s i j).row (leads_to m r s i j).column)
    ≡ cell r s (A i j).wires
wire_arrives m A r s i j p q = rw (← (leads_printed m r s i j)) arrives
  where
    arrives : cell (joined m r i).side (joined m s j).side (incoming m A (joined m r i).processor (joined m s j).processor) ≡ cell r s (A i j).wires
    arrives = unfold incoming in
        (cell_tab _ (joined m r i).side (joined m s j).side) ∙ rw (joined_twice m r i p, joined_twice m s j q) (unfold pick slot in refl)

-- ---- a rotation, the first one where b holds
cells_by : {X H W D : Type 0} (S : Operations X H W D) (k i j : ℕ) (old ins : Block X) (h : H) (v : W) (b : Bool)
    → new_cells S k i j (cond b first rotate) old ins h v ≡ turn_tile S k i j h v (cond b old ins)
unfolding new_cells
cells_by S k i j old ins h v true = refl
cells_by S k i j old ins h v false = refl

parameter_by : {X P : Type 0} (f : Block X → P) (i j : ℕ) (old ins : Block X) (p held : P) (b : Bool)
    → new_parameter f i j (cond b first rotate) old ins p held ≡ cond (eqb i j) (f (cond b old ins)) p
unfolding new_parameter
parameter_by f i j old ins p held true = refl
parameter_by f i j old ins p held false = refl

no_phase_3 : (m : ℕ) (r s : Side) (i j : ℕ) → eqb 3 (phase_of m r s i j) ≡ false
no_phase_3 m r s i j = ne_eqb 3 (phase_of m r s i j) (λ e. let w : phase_of m r s i j < 3 = phase_lt m r s i j in omega arith)

-- ---- a tick
module _ {X H W D : Type 0} (S : Operations X H W D) (m K t : ℕ) (A : ℕ → ℕ → Tile X H W D) (i j : ℕ) where
  -- what the tile rotates in step k
  abbrev pub taken : ℕ → Block X
  taken k = cond (eqb k 0) (A i j).cells (incoming m A i j)

  module _ (k : ℕ) (few : k < K) (e : t ≡ distance i j + 3 * k) where
    pub cells_rotated_lem : (tick S m K t A i j).cells ≡ turn_tile S k i j (A i (nearer i j)).row_wire (A (nearer j i) j).column_wire (taken k)
    unfolding tick tick_tile new_tile
    cells_rotated_lem = rw (rotation_at K (distance i j) t k few e, step_at_lem (distance i j) t k e) (cells_by S k i j _ _ _ _ (eqb k 0))

    pub parameters_sent : ((tick S m K t A i j).row_wire ≡ cond (eqb i j) (S.sends_row k i (taken k)) (A i (nearer i j)).row_wire)
        × ((tick S m K t A i j).column_wire ≡ cond (eqb i j) (S.sends_column k i (taken k)) (A (nearer j i) j).column_wire)
    unfolding tick tick_tile new_tile
    parameters_sent =
        rw (rotation_at K (distance i j) t k few e, step_at_lem (distance i j) t k e)
        (parameter_by (S.sends_row k i) i j _ _ _ _ (eqb k 0), parameter_by (S.sends_column k i) i j _ _ _ _ (eqb k 0))

    pub kept_rotated : (tick S m K t A i j).kept ≡ cond (eqb i j) (S.keeps k i (taken k) (A i j).kept) (A i j).kept
    unfolding tick tick_tile new_tile
    kept_rotated =
        rw (rotation_at K (distance i j) t k few e, step_at_lem (distance i j) t k e) (parameter_by (λ b. S.keeps k i b (A i j).kept) i j _ _ _ _ (eqb k 0))

  pub parameters_received : receives K t i j ≡ true
      → ((tick S m K t A i j).row_wire ≡ (A i (nearer i j)).row_wire) × ((tick S m K t A i j).column_wire ≡ (A (nearer j i) j).column_wire)
  parameters_received e =
      let r = receiving K t i j e in
      let w = parameters_sent r.step r.few r.when in
      let d = ne_eqb i j r.off_diagonal in
      (w.0 ∙ rw d, w.1 ∙ rw d)

  pub cells_read_last : 0 < K → t ≡ distance i j + 3 * K → (tick S m K t A i j).cells ≡ incoming m A i j
  unfolding tick tick_tile new_tile new_cells
  cells_read_last z e = rw (reads_last K (distance i j) t z e)

  pub cells_kept : ((k : ℕ) → 0 < K → k ≤ K → ¬ (t ≡ distance i j + 3 * k)) → (tick S m K t A i j).cells ≡ (A i j).cells
  unfolding tick tick_tile new_tile
  cells_kept f = ap (λ (x : Tile X H W D). x.cells) (tile_kept S _ i j (A i j) _ _ _ _ (no_change K (distance i j) t f))

  pub parameters_kept : ((k : ℕ) → k < K → ¬ (t ≡ distance i j + 3 * k))
      → ((tick S m K t A i j).row_wire ≡ (A i j).row_wire) × ((tick S m K t A i j).column_wire ≡ (A i j).column_wire)
  unfolding tick tick_tile new_tile
  parameters_kept f =
      let e = no_rotation K (distance i j) t f in (parameter_kept _ i j _ _ _ _ _ e, parameter_kept _ i j _ _ _ _ _ e)

  pub kept_unrotated : ((k : ℕ) → k < K → ¬ (t ≡ distance i j + 3 * k)) → (tick S m K t A i j).kept ≡ (A i j).kept
  unfolding tick tick_tile new_tile
  kept_unrotated f = parameter_kept _ i j _ _ _ _ _ (no_rotation K (distance i j) t f)

  -- A wire is set to what Algorithm Interchange says, of the cells after the tick, or keeps its value.
  pub wire_set : (r s : Side)
      → cell r s (tick S m K t A i j).wires
      ≡ cond (sets_wire m K t r s i j) (cell r s (interchange i j (tick S m K t A i j).cells)) (cell r s (A i j).wires)
  unfolding tick tick_tile new_tile new_wires sets_wire
  wire_set r s = cell_tab _ r s ∙ rw (← (values_printed i j _), cell_tab _ r s)

  -- in phase φ the wires of that phase are set
  pub wire_set_in : (φ k : ℕ) → φ < 3 → k < K → t ≡ distance i j + 3 * k + φ → (r s : Side) → sets_wire m K t r s i j ≡ eqb φ (phase_of m r s i j)
  unfolding sets_wire
  wire_set_in φ k l h e r s = rw (at_writes K (distance i j) t φ k _ (view K (distance i j) t) l h (omega arith))

  -- before the first rotation and from the last reading on none is
  pub wires_kept : (distance i j ≤ t → distance i j + 3 * K ≤ t) → (tick S m K t A i j).wires ≡ (A i j).wires
  unfolding tick tick_tile new_tile new_wires
  wires_kept f =
      tab_ext _ _ (λ r s. rw (sets_none K (distance i j) t f, no_phase_3 m r s i j)) ∙ tab_cell (A i j).wires

  pub mark_set : (tick S m K t A i j).mark ≡ ((A i j).mark || S.fails (tick S m K t A i j).cells)
  unfolding tick tick_tile new_tile
  mark_set = refl
