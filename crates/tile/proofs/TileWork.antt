-- The work of a tile on the structs of the code is the theory's. Assumes nothing.
use Prim.Native.Nat.{ℕ}
use mathlib.Core.Path.{◌≡◌, refl}
use native.Mathlib.Omega.{arith}
use mathlib.Core.Bool.{Bool, true, false, not, cond, ◌||◌}
use borrow.Author.Tests.{eqb-false}
use lib.Dec.{eqb, ltb}
use lib.Ieee.{Float}
use Rattle.float64.specs.Values.{finite}
use Rattle.systolic.specs.Blocks.{cell, tab}
use Rattle.systolic.specs.Sequential.{turn_block_rows, turn_block_columns, any_fails, operations_of}
use Rattle.systolic.specs.Tiles.{Action, idle, first, rotate, phase1, phase2, final, turn_tile, new_cells, new_parameter, new_kept}
use Rattle.tile_wires.specs.declared.Part.{Part}
use Rattle.rotation.specs.declared.Angle.{Angle}
use Rattle.rotation.specs.Rotation.{angle_of, of_tangent}
use Rattle.runs.specs.Blocks.{matrix_block, columns_block}
use Rattle.runs.specs.Cells.{Setting, block_turned, rules}
use Rattle.tile.specs.declared.Tile.{Tile}
use Rattle.tile.specs.declared.cells.Work.{Work}
use Rattle.tile.specs.Tiles.{block_of, operations}
use Rattle.tile.specs.Turned.{rows_turned, columns_turned, both_turned, off_diagonal_of, on_diagonal_of, rotated_of, taken_of, worked_of, work_before}
use Rattle.tile.specs.Turned.{quad_not_finite, part_not_finite}

module _ (s : Setting) (k i j : ℕ) where
  on_diagonal_lem : (w : Work) → block_of (on_diagonal_of s.order k i w).cells ≡ (operations s).diagonal k i (block_of w.cells)
  unfolding block_of on_diagonal_of columns_turned matrix_block columns_block operations operations_of rules block_turned
  on_diagonal_lem w = refl

  off_diagonal : (h v : Float) (p : Part) → block_of (off_diagonal_of p (ltb i j) (angle_of h) (angle_of v))
      ≡ (operations s).off_diagonal k i j h v (block_of p)
  unfolding operations operations_of
  off_diagonal h v p = go (ltb i j)
    where
      go : (b : Bool) → block_of (off_diagonal_of p b (angle_of h) (angle_of v))
          ≡ cond b (turn_block_columns (rules s) v (turn_block_rows (rules s) h (block_of p)))
          (turn_block_rows (rules s) h (turn_block_columns (rules s) v (block_of p)))
      go true = unfold block_of off_diagonal_of both_turned rows_turned columns_turned columns_block turn_block_rows turn_block_columns in
          (unfold tab cell rules of_tangent in refl)
      go false = unfold block_of off_diagonal_of both_turned rows_turned columns_turned columns_block turn_block_rows turn_block_columns in
          (unfold tab cell rules of_tangent in refl)

  -- a tile off the diagonal receives the angles of the tangents h and v
  module _ (h v : Float) (row column : Angle) (e : ¬ (i ≡ j) → row ≡ angle_of h) (f : ¬ (i ≡ j) → column ≡ angle_of v) where
    rotated_cells : (w : Work) → block_of (rotated_of s.order k w i j row column).cells ≡ turn_tile (operations s) k i j h v (block_of w.cells)
    unfolding rotated_of turn_tile
    rotated_cells w = grind (arith, on_diagonal_lem w, off_diagonal h v w.cells, e, f, eqb-false i j)

    rotated_row : (w : Work) → (rotated_of s.order k w i j row column).row ≡ cond (eqb i j) ((operations s).sends_row k i (block_of w.cells)) h
    unfolding rotated_of on_diagonal_of operations operations_of rules block_of
    rotated_row w = grind (arith, e, eqb-false i j)

    rotated_column : (w : Work) → (rotated_of s.order k w i j row column).column ≡ cond (eqb i j) ((operations s).sends_column k i (block_of w.cells)) v
    unfolding rotated_of on_diagonal_of operations operations_of rules block_of
    rotated_column w = grind (arith, f, eqb-false i j)

    rotated_counts : (w : Work) → (rotated_of s.order k w i j row column).counts
        ≡ cond (eqb i j) ((operations s).keeps k i (block_of w.cells) w.counts) w.counts
    unfolding rotated_of on_diagonal_of operations operations_of rules block_of
    rotated_counts w = grind arith

    module _ (x : Tile) (q : Part) where
      abbrev work_of : Action → Work
      work_of a = worked_of s.order k a (work_before x (taken_of a x.cells q)) i j row column

      pub worked_cells : (a : Action) → block_of (work_of a).cells ≡ new_cells (operations s) k i j a (block_of x.cells) (block_of q) h v
      unfolding new_cells
      worked_cells idle = refl
      worked_cells first = rotated_cells (work_before x x.cells)
      worked_cells rotate = rotated_cells (work_before x q)
      worked_cells phase1 = refl
      worked_cells phase2 = refl
      worked_cells final = refl

      pub worked_row : (a : Action)
          → (work_of a).row ≡ new_parameter ((operations s).sends_row k i) i j a (block_of x.cells) (block_of q) h x.row_wire
      unfolding new_parameter
      worked_row idle = refl
      worked_row first = rotated_row (work_before x x.cells)
      worked_row rotate = rotated_row (work_before x q)
      worked_row phase1 = refl
      worked_row phase2 = refl
      worked_row final = refl

      pub worked_column : (a : Action)
          → (work_of a).column ≡ new_parameter ((operations s).sends_column k i) i j a (block_of x.cells) (block_of q) v x.column_wire
      unfolding new_parameter
      worked_column idle = refl
      worked_column first = rotated_column (work_before x x.cells)
      worked_column rotate = rotated_column (work_before x q)
      worked_column phase1 = refl
      worked_column phase2 = refl
      worked_column final = refl

      pub worked_counts : (a : Action) → (work_of a).counts ≡ new_kept ((operations s).keeps k i) i j a (block_of x.cells) (block_of q) x.counts
      unfolding new_parameter
      worked_counts idle = refl
      worked_counts first = rotated_counts (work_before x x.cells)
      worked_counts rotate = rotated_counts (work_before x q)
      worked_counts phase1 = refl
      worked_counts phase2 = refl
      worked_counts final = refl

-- ---- the mark
fails_eight : (a b c d e f g h : Bool) → ((a || (b || (c || d))) || (e || (f || (g || h)))) ≡ ((((a || e) || (b || f)) || (c || g)) || (d || h))
fails_eight a b c d e f g h = grind arith

pub some_fail : (s : Setting) (p : Part) → part_not_finite p ≡ (operations s).fails (block_of p)
unfolding part_not_finite quad_not_finite operations operations_of any_fails rules block_of
some_fail s p =
    let x = p.matrix in
    let y = p.vectors in
    fails_eight (not (finite x.alpha)) (not (finite x.beta)) (not (finite x.gamma)) (not (finite x.delta))
    (not (finite y.alpha)) (not (finite y.beta)) (not (finite y.gamma)) (not (finite y.delta))
