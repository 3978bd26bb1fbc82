-- The wires that the code sets are the theory's. Assumes nothing.
use Prim.Native.Nat.{ℕ, zero, suc, ◌<◌}
use mathlib.Core.Path.{◌≡◌, refl}
use Rattle.std.proofs.Common.{Option, Some, None}
use mathlib.Core.Bool.{Bool, true, false, cond, ◌||◌}
use native.Mathlib.Omega.{arith}
use borrow.Author.Tests.{ne_eqb, ltb-true}
use lib.Dec.{eqb, ltb}
use lib.Ieee.{Float}
use Rattle.std.specs.declared.cmp.Ordering.{Ordering}
use Rattle.std.specs.declared.cmp.Ordering.TheVariants.{Less, Equal, Greater}
use Rattle.systolic.specs.Slots.{Side, left, right, flip}
use Rattle.systolic.specs.Blocks.{cell, tab}
use Rattle.systolic.specs.Tiles.{Action, idle, first, rotate, phase1, phase2, final, carried, phase_of, phase_in, new_wires}
use Rattle.tile_wires.specs.declared.Quad.{Quad}
use Rattle.tile_wires.specs.declared.Part.{Part}
use Rattle.tile_wires.specs.Wires.{quad, across_of, interchanged, edge_of, order_of, set_in0, set_in1, set_in2, set_of, wires_of, part_wires}
use Rattle.tile_schedule.specs.Schedule.{phase_number}
use Rattle.runs.specs.Cells.{Cell}
use Rattle.tile.specs.Tiles.{block_of}

-- ---- by four tests: in the first row or column, in the last, above the diagonal, below it
abbrev edge : Bool → Bool → ℕ
edge f l = cond f (cond l 3 1) (cond l 2 0)

abbrev order : Bool → Bool → Ordering
order above below = cond above Less (cond below Greater Equal)

abbrev chosen : ℕ → Bool → Bool → Bool → Bool → Quad Float → Quad Float → Quad Float
chosen ph f l above below out old =
    quad (cond (eqb ph (cond f 1 2)) out.alpha old.alpha) (cond (eqb ph (cond below 0 2)) out.beta old.beta)
    (cond (eqb ph (cond above 0 2)) out.gamma old.gamma) (cond (eqb ph (cond l 1 2)) out.delta old.delta)

module _ (f l above below : Bool) (out old : Quad Float) where
  pub by_tests : (a : Action) → ¬ ((above ≡ true) × (below ≡ true))
      → set_of (Some (phase_in a)) (edge f l) (order above below) out old ≡ chosen (phase_in a) f l above below out old
  unfolding set_of set_in0 set_in1 set_in2 phase_in
  by_tests idle h = grind arith
  by_tests first h = grind arith
  by_tests rotate h = grind arith
  by_tests phase1 h = grind arith
  by_tests phase2 h = grind arith
  by_tests final h = grind arith

-- ---- the tests of a tile
not_first : (i : ℕ) → eqb (suc i) 0 ≡ false
not_first i = ne_eqb (suc i) 0 (λ e. omega arith)

module _ (m i j : ℕ) where
  phase_first : (i j : ℕ) → phase_of m left left i j ≡ cond (eqb i 0 || eqb j 0) 1 2
  unfolding phase_of
  phase_first zero j = grind arith
  phase_first (suc i) zero = grind arith
  phase_first (suc i) (suc j) = grind arith

  phase_last : phase_of m right right i j ≡ cond (eqb i m || eqb j m) 1 2
  unfolding phase_of
  phase_last = grind arith

  not_both : ¬ ((ltb i j ≡ true) × (ltb j i ≡ true))
  not_both e = let a : i < j = ltb-true _ _ e.0 in let b : j < i = ltb-true _ _ e.1 in omega arith

  -- the four wires of one matrix, each by its phase
  wires_chosen : (a : Action) (q old : Quad Float) → wires_of (Some (phase_in a)) m i j q old
      ≡ quad (cond (eqb (phase_in a) (phase_of m left left i j)) (interchanged i j q).alpha old.alpha)
      (cond (eqb (phase_in a) (phase_of m left right i j)) (interchanged i j q).beta old.beta)
      (cond (eqb (phase_in a) (phase_of m right left i j)) (interchanged i j q).gamma old.gamma)
      (cond (eqb (phase_in a) (phase_of m right right i j)) (interchanged i j q).delta old.delta)
  wires_chosen a q old =
      rw (phase_first i j, phase_last)
      (unfold wires_of edge_of order_of phase_of in
      (by_tests (eqb i 0 || eqb j 0) (eqb i m || eqb j m) (ltb i j) (ltb j i) (interchanged i j q) old a not_both))

-- ---- what leaves by each corner
corner : Side → Side → Quad Float → Float
corner left left q = q.alpha
corner left right q = q.beta
corner right left q = q.gamma
corner right right q = q.delta

carries : (p : Part) (i j : ℕ) (r s : Side)
    → record { entry = corner r s (interchanged i j p.matrix); vector = corner r s (interchanged i j p.vectors) }
    ≡ cell (carried i r) (carried j s) (block_of p)
unfolding corner interchanged across_of carried flip cell block_of
carries p i j left left = grind arith
carries p i j left right = grind arith
carries p i j right left = grind arith
carries p i j right right = grind arith

-- ---- all wires of a tile
module _ (a : Action) (m i j : ℕ) (p old : Part) where
  abbrev sets : Side → Side → Bool
  sets r s = eqb (phase_in a) (phase_of m r s i j)

  each : (r s : Side) → ◌≡◌ {A = Cell}
      (record {
        entry = corner r s (wires_of (Some (phase_in a)) m i j p.matrix old.matrix);
        vector = corner r s (wires_of (Some (phase_in a)) m i j p.vectors old.vectors);
      })
      (cond (sets r s) (cell (carried i r) (carried j s) (block_of p)) (cell r s (block_of old)))
  unfolding corner cell block_of
  each left left = grind (arith, wires_chosen m i j a p.matrix old.matrix, wires_chosen m i j a p.vectors old.vectors, carries p i j left left)
  each left right = grind (arith, wires_chosen m i j a p.matrix old.matrix, wires_chosen m i j a p.vectors old.vectors, carries p i j left right)
  each right left = grind (arith, wires_chosen m i j a p.matrix old.matrix, wires_chosen m i j a p.vectors old.vectors, carries p i j right left)
  each right right = grind (arith, wires_chosen m i j a p.matrix old.matrix, wires_chosen m i j a p.vectors old.vectors, carries p i j right right)

  wires_numbered : block_of (part_wires (Some (phase_in a)) m i j p old) ≡ new_wires m i j a (block_of p) (block_of old)
  unfolding part_wires block_of new_wires tab corner
  wires_numbered = grind (arith, each left left, each left right, each right left, each right right)

  -- the phase that the tile is in, if it is in one
  pub part_wires_lem : (phase : Option ℕ) → phase_number phase ≡ phase_in a
      → block_of (part_wires phase m i j p old) ≡ new_wires m i j a (block_of p) (block_of old)
  part_wires_lem (Some k) e = rw e wires_numbered
  part_wires_lem None e = rw unset at (rw (← e) at wires_numbered)
    where
      unset : part_wires (Some 3) m i j p old ≡ part_wires None m i j p old
      unset = unfold part_wires wires_of set_of in refl
