-- The array's run is the plain run, in every bit. Assumes nothing.
use Prim.Native.Nat.{ℕ, zero, suc, ◌+◌, ◌-◌, ◌*◌, ◌/◌, ◌%◌, ◌<◌, ◌≤◌}
use mathlib.Core.Path.{◌≡◌, refl, ap, ◌∙◌}
use mathlib.Core.Bool.{Bool, true, false, cond}
use mathlib.Core.List.{List}
use native.Mathlib.Nat.{zero-add}
use native.Mathlib.Omega.{arith}
use borrow.Author.Tests.{eqb-true, eqb-false}
use lib.Dec.{T, eqb}
use lib.ListN.{length, get_or}
use lib.Ieee.{Float, nan, binary64, fits}
use Rattle.refusal.specs.Answers.{given, refused_by}
use Rattle.refusal.specs.declared.Refusal.TheVariants.{Spoiled}
use Rattle.float64.specs.Values.{plus_zero}
use Rattle.systolic.specs.Slots.{Slot, slot, in_order_at, ordered_line}
use Rattle.lists.specs.Bounded.{any}
use Rattle.systolic.specs.Blocks.{cell, pick}
use Rattle.systolic.specs.Synchronous.{Operations}
use Rattle.systolic.specs.Sequential.{operations_of, sequential_kept}
use Rattle.systolic.specs.Tiles as theory
use Rattle.systolic.specs.Arrays.{tick, array_after}
use Rattle.lists.proofs.Bounded.{any_within}
use Rattle.lists.proofs.Sums.{total_below}
use Rattle.systolic.proofs.Neighbourhood.{tick_same}
use Rattle.systolic.proofs.Starts.{tick_any_start}
use Rattle.systolic.proofs.Ticks.{kept_turned}
use Rattle.systolic.proofs.Lines.{in_order_one}
use Rattle.systolic.proofs.Agreement.{kept_sequential, agreement}
use Rattle.sizes.specs.Sizes.{most_sweeps, is_order, processors_of, first_line, lines_of, steps_of, ticks_of}
use Rattle.sizes.proofs.Orders.{order_is, order_half, sweep_is, steps_few}
use Rattle.matrix.specs.Matrix.{flat}
use Rattle.matrix.proofs.SameEntries.{Line, flat_same}
use Rattle.runs.specs.State.{State, start_of, zeros}
use Rattle.plain_run.specs.State.{after, not_finite, spoiled}
use Rattle.runs.specs.Outcome.{outcome, report, answering}
use Rattle.runs.specs.declared.Counts.{Counts}
use Rattle.runs.specs.Counts.{counts}
use Rattle.plain_run.specs.Run.{ran_of}
use Rattle.runs.specs.Cells.{Cell, cell as cellWith, cell_of, Setting, setting, rules}
use Rattle.plain_run.proofs.VanishingLine.{every_line}
use Rattle.plain_run.specs.Met.{rounded_by}
use Rattle.plain_run.proofs.RoundedPairs.{rounded_sum}
use Rattle.plain_run.proofs.KeptCounts.{kept_rounded}
use Rattle.plain_run.proofs.Sequence.{plain_sequential, plain_fails, fails_are}
use Rattle.runs.proofs.Verdicts.{Begins}
use Rattle.plain_run.proofs.RunStart.{start_finite, start_vanishes}
use Rattle.tile.specs.declared.Tile.{Tile}
use Rattle.tile.proofs.IncomingCells.{side_by, corner_cell}
use Rattle.tile.specs.Tiles.{the_tile, operations}
use Rattle.array.specs.declared.Array.{Array}
use Rattle.array.specs.Arrays.{tile_at, the_array, tiles_after}
use Rattle.array.specs.Runs.{start_array, ticked, GoesOn}
use Rattle.array.proofs.TickedTiles.{the_tile_of}
use Rattle.array.proofs.ArrayEnd.{ended_stays}
use Rattle.array.proofs.TicksInARow.{tiles_from, ticked_made}
use Rattle.array.proofs.MadeTicks.{tile_after, start_tile_lem}
use Rattle.array_run.specs.Results.{WholeReport, reporting, joint_at, matrix_in, vectors_in, some_marked, rounded_pairs, handed_over}

-- the slot of a line, where f is the first
abbrev slot_of : ℕ → ℕ → Slot
slot_of f r = slot ((r - f) / 2) (side_by (eqb ((r - f) % 2) 1))

slot_line : (f r : ℕ) → f ≤ r → ordered_line f (slot_of f r) ≡ r
unfolding ordered_line slot
slot_line f r h = go (eqb ((r - f) % 2) 1) refl
  where
    go : (b : Bool) → eqb ((r - f) % 2) 1 ≡ b → in_order_at f (side_by b) ((r - f) / 2) ≡ r
    go true e = let w : (r - f) % 2 ≡ 1 = eqb-true _ _ e in unfold in_order_at in (omega arith)
    go false e = let w : ¬ ((r - f) % 2 ≡ 1) = eqb-false _ _ e in unfold in_order_at in (omega arith)

module _ (n : ℕ) (l : List Tile) (r c : ℕ) where
  abbrev f : ℕ
  f = first_line n

  matrix_cell : matrix_in n l r c ≡ (pick (λ i j. (the_array l i j).cells) (slot_of f r) (slot_of f c)).entry
  unfolding joint_at pick slot the_array the_tile
  matrix_cell = ap (λ (x : Cell). x.entry) (corner_cell (tile_at l ((r - f) / 2) ((c - f) / 2)).cells _ _)

  vectors_cell : vectors_in n l r c ≡ (pick (λ i j. (the_array l i j).cells) (slot_of f r) (slot_of f c)).vector
  unfolding joint_at pick slot the_array the_tile
  vectors_cell = ap (λ (x : Cell). x.vector) (corner_cell (tile_at l ((r - f) / 2) ((c - f) / 2)).cells _ _)

-- ---- a run
module _ (n sweeps : ℕ) (l : List Float) (order : is_order n ≡ true) (few : sweeps ≤ most_sweeps) (long : length l ≡ n * n) where
  abbrev N : ℕ
  N = processors_of n

  abbrev m : ℕ
  m = processors_of n - 1

  abbrev K : ℕ
  K = steps_of n sweeps

  abbrev X : State
  X = start_of n l

  abbrev s : Setting
  s = setting n

  abbrev S : Operations Cell Float Float Counts
  S = operations_of (rules s) (ordered_line (first_line n)) (cell_of X) (cellWith plus_zero plus_zero) plus_zero plus_zero (counts 0 0)

  -- the tiles after t ticks
  unfoldable pub tiles_by : ℕ → List Tile
  tiles_by t = tiles_from s N K 0 t (start_array n sweeps l).tiles

  tiles_step : (t : ℕ) → tiles_by (suc t) ≡ tiles_after s N K t (tiles_by t)
  unfolding tiles_by tiles_from
  tiles_step t = rw zero-add

  within : (i : ℕ) → i ≤ m → i < N
  within i h = let o = (order_half n order).0 in omega arith

  -- ---- the start
  starts_as : (i j : ℕ) → i ≤ m → j ≤ m → the_array (tiles_by 0) i j ≡ array_after S m K 0 i j
  unfolding tiles_by tiles_from array_after operations_of
  starts_as i j hi hj = start_tile_lem n sweeps l order long i j (within i hi) (within j hj)

  -- ---- the ticks
  from_start : (t : ℕ) (A : ℕ → ℕ → theory.Tile Cell Float Float Counts) (i j : ℕ) → tick (operations s) m K t A i j ≡ tick S m K t A i j
  unfolding operations
  from_start t A i j =
      tick_any_start (rules s) (ordered_line (first_line n)) (ordered_line (first_line n)) (λ r c. cellWith plus_zero plus_zero) (cell_of X)
      (cellWith plus_zero plus_zero) (cellWith plus_zero plus_zero) plus_zero plus_zero plus_zero plus_zero (counts 0 0) (counts 0 0) m K t A i j

  tiles_are : (t i j : ℕ) → i ≤ m → j ≤ m → the_array (tiles_by t) i j ≡ array_after S m K t i j
  tiles_are zero i j hi hj = starts_as i j hi hj
  tiles_are (suc t) i j hi hj = next (tiles_are t)
    where
      ticked_tile_lem : the_array (tiles_by (suc t)) i j ≡ tick (operations s) m K t (the_array (tiles_by t)) i j
      ticked_tile_lem = unfold the_array in
          (ap (λ (l : List Tile). the_tile (tile_at l i j)) (tiles_step t)
          ∙ ap the_tile (tile_after s N K t (tiles_by t) i j (order_half n order).1 (within i hi) (within j hj)) ∙ the_tile_of _)

      next : ((i j : ℕ) → i ≤ m → j ≤ m → the_array (tiles_by t) i j ≡ array_after S m K t i j)
          → the_array (tiles_by (suc t)) i j ≡ array_after S m K (suc t) i j
      next same =
          ticked_tile_lem
          ∙ from_start t (the_array (tiles_by t)) i j
          ∙ unfold array_after in (tick_same S m K t (the_array (tiles_by t)) (array_after S m K t) same i j hi hj)

  -- the record after t ticks
  unfoldable pub record_by : ℕ → Array
  record_by t = record { n = n; sweeps = sweeps; tick = t; tiles = tiles_by t }

  goes_on : (t : ℕ) → t ≤ ticks_of n sweeps → GoesOn (start_array n sweeps l) t
  unfolding start_array
  goes_on t h = record { order = order; few = few; room = omega arith }

  pub ticked_is : (t : ℕ) → t ≤ ticks_of n sweeps → ticked t (start_array n sweeps l) ≡ record_by t
  ticked_is t h = ticked_made (start_array n sweeps l) t (goes_on t h) ∙ unfold record_by tiles_by start_array in (rw zero-add)

  -- a later tick changes nothing
  pub ticked_stays : (k : ℕ) → ticked (k + ticks_of n sweeps) (start_array n sweeps l) ≡ record_by (ticks_of n sweeps)
  ticked_stays k =
      ended_stays (start_array n sweeps l) k (ticks_of n sweeps) (goes_on (ticks_of n sweeps) (omega arith)) (unfold start_array in (omega arith))
      ∙ ticked_is (ticks_of n sweeps) (omega arith)

  -- ---- the end
  whole_sweeps : K ≡ sweeps * (2 * m + 1)
  whole_sweeps = ap (λ k. sweeps * k) (sweep_is n order)

  last_tick : ticks_of n sweeps ≡ 3 * (sweeps * (2 * m + 1)) + suc m
  last_tick = let h = (order_half n order).0 in let e : suc m ≡ N = omega arith in rw (e, ← whole_sweeps)

  abbrev last_tiles : List Tile
  last_tiles = tiles_by (ticks_of n sweeps)

  last_as : (i j : ℕ) → i ≤ m → j ≤ m
      → the_array last_tiles i j ≡ array_after S m (sweeps * (2 * m + 1)) (3 * (sweeps * (2 * m + 1)) + suc m) i j
  last_as i j hi hj = rw (← last_tick, ← whole_sweeps) (tiles_are (ticks_of n sweeps) i j hi hj)

  cells_are : (u z : Slot) → u.processor ≤ m → z.processor ≤ m
      → pick (λ i j. (the_array last_tiles i j).cells) u z ≡ cell_of (after n K X) (ordered_line (first_line n) u) (ordered_line (first_line n) z)
  cells_are u z p q =
      unfold pick in (ap (λ (x : theory.Tile Cell Float Float Counts). cell u.side z.side x.cells) (last_as u.processor z.processor p q))
      ∙ (agreement (rules s) (first_line n) m (cell_of X) (cellWith plus_zero plus_zero) plus_zero plus_zero (counts 0 0) sweeps).cells u z p q
      ∙ rw (← whole_sweeps) (ap (λ (f : ℕ → ℕ → Cell). f (ordered_line (first_line n) u) (ordered_line (first_line n) z)) (plain_sequential s order X K))

  -- the slot of a real line
  abbrev slot_by : ℕ → Slot
  slot_by = slot_of (first_line n)

  line_at_lem : (r : ℕ) → Line n r → ordered_line (first_line n) (slot_by r) ≡ r
  line_at_lem r h = slot_line (first_line n) r (omega arith)

  line_slot : (r : ℕ) → Line n r → (slot_by r).processor ≤ m
  unfolding slot
  line_slot r h = let o = order_is n order in omega arith

  pub last_cell : (r c : ℕ) → Line n r → Line n c → pick (λ i j. (the_array last_tiles i j).cells) (slot_by r) (slot_by c) ≡ cell_of (after n K X) r c
  last_cell r c hr hc = rw (line_at_lem r hr, line_at_lem c hc) at (cells_are (slot_by r) (slot_by c) (line_slot r hr) (line_slot c hc))

  pub last_matrix : (r c : ℕ) → Line n r → Line n c → matrix_in n last_tiles r c ≡ (after n K X).matrix r c
  last_matrix r c hr hc = matrix_cell n last_tiles r c ∙ ap (λ (x : Cell). x.entry) (last_cell r c hr hc) ∙ unfold cell_of in refl

  pub last_vectors : (r c : ℕ) → Line n r → Line n c → vectors_in n last_tiles r c ≡ (after n K X).vectors r c
  last_vectors r c hr hc = vectors_cell n last_tiles r c ∙ ap (λ (x : Cell). x.vector) (last_cell r c hr hc) ∙ unfold cell_of in refl

  -- ---- the marks
  pub last_marked : not_finite n X ≡ false → some_marked N last_tiles ≡ spoiled n K X
  last_marked f =
      unfold some_marked in (marks_same)
      ∙ (agreement (rules s) (first_line n) m (cell_of X) (cellWith plus_zero plus_zero) plus_zero plus_zero (counts 0 0) sweeps).mark
      (rw whole (fails_are s order X X ∙ f))
      ∙ rw (whole, ← whole_sweeps) (plain_fails s order X K)
    where
      whole : 2 * suc m ≡ lines_of n
      whole = let h = (order_half n order).0 in omega arith

      mark_same : (i j : ℕ) → i < suc m → j < suc m
          → (tile_at last_tiles i j).mark ≡ (array_after S m (sweeps * (2 * m + 1)) (3 * (sweeps * (2 * m + 1)) + suc m) i j).mark
      mark_same i j hi hj = unfold the_array the_tile in (ap (λ (x : theory.Tile Cell Float Float Counts). x.mark) (last_as i j (omega arith) (omega arith)))

      marks_same : any N (λ i. any N (λ j. (tile_at last_tiles i j).mark))
          ≡ any (suc m) (λ i. any (suc m) (λ j. (array_after S m (sweeps * (2 * m + 1)) (3 * (sweeps * (2 * m + 1)) + suc m) i j).mark))
      marks_same =
          let h = (order_half n order).0 in
          any_within N (suc m) _ _ (omega arith) (λ i hi. any_within N (suc m) _ _ (omega arith) (λ j hj. mark_same i j hi hj) (λ j a b. absurd (omega arith)))
          (λ i a b. absurd (omega arith))

  -- ---- what the tiles on the diagonal count: after z of their rotations and no more, what the plain order keeps
  abbrev pub kept_after : ℕ → ℕ → Counts
  kept_after z i = sequential_kept (rules s) (ordered_line (first_line n)) m (cell_of X) (counts 0 0) z i

  pub counts_by : (z i t : ℕ) → i < N → z ≤ K → 3 * z < t + 3 → (z < K → t ≤ 3 * z) → (tile_at (tiles_by t) i i).counts ≡ kept_after z i
  counts_by z i t hi within made no_more =
      unfold the_array the_tile in (ap (λ (x : theory.Tile Cell Float Float Counts). x.kept) (tiles_are t i i (omega arith) (omega arith)))
      ∙ kept_turned S m K t z i (omega arith) within made no_more
      ∙ kept_sequential (rules s) (ordered_line (first_line n)) m (in_order_one (first_line n) m) (cell_of X) (cellWith plus_zero plus_zero) plus_zero plus_zero
      (counts 0 0) z i (omega arith)

  -- at the end their rounded pairs are those of the plain run
  last_rounded : rounded_pairs N last_tiles ≡ rounded_by n K X
  unfolding rounded_pairs
  last_rounded =
      let most = steps_few n sweeps order few in
      total_below _ _ N (λ i hi.
      ap (λ (d : Counts). d.rounded) (counts_by K i (ticks_of n sweeps) hi (omega arith) (omega arith) (λ h. absurd (omega arith)))
      ∙ kept_rounded s order X K i hi (omega (arith, most)))
      ∙ rounded_sum n K X

  -- ---- the record of a run of all its ticks
  abbrev made : WholeReport
  made = reporting (report sweeps (rounded_by n K X)) (ticks_of n sweeps)

  pub handed_is : not_finite n X ≡ false
      → handed_over (ticked (ticks_of n sweeps) (start_array n sweeps l)) ≡ answering made (ran_of n sweeps l)
  handed_is f = ap handed_over (ticked_is (ticks_of n sweeps) (omega arith)) ∙ unfold handed_over record_by ran_of in
      (rw (last_marked f, last_rounded, matrix_flat, vectors_flat) (go (spoiled n K X)))
    where
      matrix_flat : flat n (matrix_in n last_tiles) ≡ flat n (after n K X).matrix
      matrix_flat = flat_same n _ _ last_matrix

      vectors_flat : flat n (vectors_in n last_tiles) ≡ flat n (after n K X).vectors
      vectors_flat = flat_same n _ _ last_vectors

      go : (b : Bool)
          → cond b (outcome {A = WholeReport} (refused_by Spoiled) (zeros n) (zeros n))
          (outcome (given made) (flat n (after n K X).matrix) (flat n (after n K X).vectors))
          ≡ answering {A = Unit} made
          (cond b (outcome (refused_by Spoiled) (zeros n) (zeros n)) (outcome (given tt) (flat n (after n K X).matrix) (flat n (after n K X).vectors)))
      go true = refl
      go false = refl

-- the start of an accepted run is finite
pub start_clean : (n sweeps : ℕ) (l : List Float) (lr lv : ℕ) → ((k : ℕ) → T (fits binary64 (get_or l k nan))) → Begins n sweeps l lr lv
    → not_finite n (start_of n l) ≡ false
start_clean n sweeps l lr lv fitting b = every_line n (start_of n l) (start_finite n l fitting b.entries) (start_vanishes n l)
