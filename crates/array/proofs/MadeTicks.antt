-- What a start and a tick that is made leave in the tiles of the record. Assumes nothing.
use Prim.Native.Nat.{ℕ, ◌+◌, ◌-◌, ◌*◌, ◌/◌, ◌%◌, ◌<◌, ◌≤◌}
use mathlib.Core.Path.{◌≡◌, sym, ap, ◌∙◌}
use mathlib.Core.Bool.{true, false}
use mathlib.Core.List.{List}
use native.Mathlib.Omega.{arith}
use borrow.Author.Tests.{lt-ltb}
use lib.ListN.{length}
use lib.Ieee.{Float}
use Rattle.refusal.specs.Answers.{Answered, given, answered}
use Rattle.float64.specs.Values.{plus_zero}
use Rattle.lists.specs.Tabulate.{tabulate}
use Rattle.lists.proofs.Tabulated.{get_d_tabulate}
use Rattle.systolic.specs.Slots.{slot, ordered_line, in_order_at}
use Rattle.systolic.specs.Blocks.{tab}
use Rattle.systolic.specs.Sequential.{block_at}
use Rattle.systolic.specs.Tiles as theory
use Rattle.systolic.specs.Arrays.{tick}
use Rattle.sizes.specs.Sizes.{most_processors, is_order, processors_of, first_line, steps_of}
use Rattle.sizes.proofs.Orders.{order_half}
use Rattle.runs.specs.State.{start_of}
use Rattle.runs.specs.declared.Counts.{Counts}
use Rattle.runs.specs.Counts.{counts}
use Rattle.runs.specs.Cells.{Cell, cell, cell_of, Setting, setting}
use Rattle.runs.proofs.Verdicts.{Begins, begins}
use Rattle.tile_schedule.specs.Answers.{Tick, made, progress_answered, progress_of}
use Rattle.tile_schedule.proofs.Answers.{made_means}
use Rattle.tile.specs.declared.Tile.{Tile}
use Rattle.tile.specs.Tiles.{block_of, the_tile, operations}
use Rattle.tile_start.specs.Beginning.{zero_part, starting_tile, quad_at}
use Rattle.tile_start.proofs.StartTiles.{starts_with}
use Rattle.array.specs.declared.Array.{Array}
use Rattle.array.specs.declared.Started.{Started}
use Rattle.array.specs.declared.Ticked.{Ticked}
use Rattle.array.specs.Arrays.{no_tile, tile_at, tile_of, the_array, tiles_after, array_of, Ticks}
use Rattle.array.specs.Runs.{start_array, start_answer, started_of, Starts}
use Rattle.array.proofs.TickedTiles.{the_tile_of}

-- the tile in row i and column j of a list that is given by its places
module _ (i j : ℕ) (hi : i < most_processors) (hj : j < most_processors) where
  tile_tabulated : (f : ℕ → Tile) → tile_at (tabulate (most_processors * most_processors) f) i j ≡ f (i * most_processors + j)
  unfolding tile_at
  tile_tabulated f = get_d_tabulate (most_processors * most_processors) f (i * most_processors + j) no_tile (omega arith)

  row_of : (i * most_processors + j) / most_processors ≡ i
  row_of = omega arith

  column_of_lem : (i * most_processors + j) % most_processors ≡ j
  column_of_lem = omega arith

-- ---- a tick
-- the tile in row i and column j after it
pub tile_after : (s : Setting) (N K t : ℕ) (l : List Tile) (i j : ℕ) → N ≤ most_processors → i < N → j < N
    → tile_at (tiles_after s N K t l) i j ≡ tile_of (tick (operations s) (N - 1) K t (the_array l) i j)
unfolding tiles_after
tile_after s N K t l i j few hi hj =
    let a : i < most_processors = omega arith in
    let b : j < most_processors = omega arith in
    tile_tabulated i j a b _ ∙ rw (row_of i j a b, column_of_lem i j a b, lt-ltb i N hi, lt-ltb j N hj)

module _ (x : Array) (r : Ticked) (p : Ticks x r) (h : progress_answered r.answer ≡ given made) where
  is_made : given made ≡ progress_of x.n x.sweeps x.tick
  is_made = sym h ∙ p.answers

  pub made_array : r.array ≡ array_of (given made) x
  made_array = p.hands_back ∙ ap (λ (t : Answered Tick). array_of t x) (sym is_made)

  pub made_tile : (i j : ℕ) → i < processors_of x.n → j < processors_of x.n
      → the_array r.array.tiles i j
      ≡ tick (operations (setting x.n)) (processors_of x.n - 1) (steps_of x.n x.sweeps) x.tick (the_array x.tiles) i j
  made_tile i j hi hj =
      rw made_array
      (unfold the_array in
      (ap the_tile
      (tile_after (setting x.n) (processors_of x.n) (steps_of x.n x.sweeps) x.tick x.tiles i j
      (order_half x.n (made_means x.n x.sweeps x.tick is_made).order).1 hi hj)
      ∙ the_tile_of _))

-- ---- the start
-- cells of the matrix and of the identity, in the order of the lines from the first on, all wires at +0, not marked, nothing counted
abbrev pub begun : ℕ → List Float → ℕ → ℕ → theory.Tile Cell Float Float Counts
begun n l i j =
    record {
      cells = block_at (ordered_line (first_line n)) (cell_of (start_of n l)) i j;
      wires = tab (λ r s. cell plus_zero plus_zero);
      row_wire = plus_zero;
      column_wire = plus_zero;
      mark = false;
      kept = counts 0 0;
    }

module _ (n sweeps : ℕ) (l : List Float) where
  begun_as : (i j : ℕ)
      → (let r = 2 * i + first_line n in
      let c = 2 * j + first_line n in
      the_tile (starting_tile (record { matrix = quad_at (start_of n l).matrix r c; vectors = quad_at (start_of n l).vectors r c })))
      ≡ begun n l i j
  unfolding the_tile starting_tile zero_part quad_at block_of block_at ordered_line in_order_at slot tab cell_of
  begun_as i j =
      let r : 2 * i + 1 + first_line n ≡ 2 * i + first_line n + 1 = omega arith in
      let c : 2 * j + 1 + first_line n ≡ 2 * j + first_line n + 1 = omega arith in
      rw (r, c)

  pub start_tile_lem : is_order n ≡ true → length l ≡ n * n → (i j : ℕ) → i < processors_of n → j < processors_of n
      → the_array (start_array n sweeps l).tiles i j ≡ begun n l i j
  unfolding the_array start_array
  start_tile_lem order long i j hi hj =
      let few = (order_half n order).1 in
      let a : i < most_processors = omega arith in
      let b : j < most_processors = omega arith in
      ap the_tile (tile_tabulated i j a b _ ∙ rw (row_of i j a b, column_of_lem i j a b) (starts_with n l long i j hi hj))
      ∙ begun_as i j

  module _ (s : Started) (p : Starts n sweeps l s) (h : answered s.answer ≡ given tt) where
    pub is_given_lem : start_answer n sweeps l ≡ given tt
    is_given_lem = sym p.answers ∙ h

    pub started_array : s.array ≡ start_array n sweeps l
    started_array = p.hands_back ∙ ap (λ (t : Answered Unit). started_of t n sweeps l) is_given_lem

    pub started_tile : (i j : ℕ) → i < processors_of n → j < processors_of n → the_array s.array.tiles i j ≡ begun n l i j
    started_tile i j hi hj =
        let w : Begins n sweeps l (length l) (length l) = begins n sweeps l (length l) (length l) is_given_lem in
        rw started_array (start_tile_lem w.order w.result_long i j hi hj)
