-- What a start and a tick leave in each tile, each part by the law that proves it. Assumes nothing.
use Prim.Native.Nat.{ℕ, ◌+◌, ◌-◌, ◌*◌, ◌%◌, ◌≤◌, ◌<◌}
use mathlib.Core.Path.{◌≡◌, refl, sym, ap, ◌∙◌}
use mathlib.Core.Bool.{Bool, true, false, not, cond, ◌||◌, true≢false}
use mathlib.Core.List.{List}
use native.Mathlib.Omega.{arith}
use borrow.Author.Tests.{eqb-true, eq-eqb, ne_eqb}
use lib.Dec.{eqb}
use lib.Ieee.{Float}
use Rattle.refusal.specs.Answers.{given, answered}
use Rattle.systolic.specs.Slots.{Side, slot, ordered_line, in_order_at}
use Rattle.systolic.specs.Blocks.{Block, tab}
use Rattle.systolic.specs.Sequential.{block_at}
use Rattle.systolic.specs.Tiles.{distance, phase_of, action_at, turn_tile}
use Rattle.systolic.specs.Traffic.{rotates}
use Rattle.systolic.specs.Arrays.{nearer, incoming, tick}
use Rattle.systolic.specs.Schedule.{set_in_phase0, set_in_phase1, set_in_phase2}
use Rattle.systolic.proofs.PrintedTables.{phase_0_printed, phase_1_printed, phase_2_printed}
use Rattle.systolic.proofs.Clock.{rotates_at, at_rotation}
use Rattle.systolic.proofs.TileTicks as ticks
use Rattle.float64.specs.Values.{plus_zero}
use Rattle.sizes.specs.Sizes.{processors_of, sweep_steps, steps_of}
use Rattle.rotation.specs.declared.Parameters.{Parameters}
use Rattle.rotation.specs.declared.Parameters.TheVariants.{Still, Turn}
use Rattle.rotation.specs.Rotation.{sent}
use Rattle.matrix.specs.Matrix.{at}
use Rattle.runs.specs.State.{identity, bordered, start_of}
use Rattle.runs.specs.Blocks.{block_parameters}
use Rattle.runs.specs.declared.Counts.{Counts}
use Rattle.runs.specs.Counts.{is_turn, counted, begins_sweep, turns_after, rounded_after, counts_after}
use Rattle.runs.specs.Cells.{Cell, cell, cell_of, block_entries, Setting, setting, ruled_block, found_block}
use Rattle.runs.proofs.BlockTurns.{rows_turned_lem, columns_turned_lem}
use Rattle.tile_schedule.specs.Answers.{made, progress_answered}
use Rattle.tile.specs.Tiles.{operations}
use Rattle.tile.proofs.TileOperations.{tile_turns, tile_sends, tile_keeps, tile_fails}
use Rattle.array.specs.declared.Array.{Array}
use Rattle.array.specs.declared.Started.{Started}
use Rattle.array.specs.declared.Ticked.{Ticked}
use Rattle.array.specs.Arrays.{Ticks}
use Rattle.array.specs.Runs.{start_array, Starts}
use Rattle.array.proofs.MadeTicks.{made_array, made_tile, started_array, started_tile, begun}
use Rattle.claims.specs.Tiles.{OneTile, tile_in, diagonal_parameters, cells_rotated, CellsTicked, ParametersTicked, Sets, WiresTicked, TileTicked}
use Rattle.claims.specs.Tiles.{is_turned, diagonal_exact, counted_on, CountsTicked, TickMade, cell_at_first, TileStarted, StartMade, TilesAsPrinted}
use Rattle.claims.proofs.FirstProcessor.{ruled_first, ruled_exact_first}

-- ---- the counts, by the page's words
pub turn_as : (P : Parameters) → is_turn P ≡ is_turned P
turn_as Still = refl
turn_as (Turn t c s) = refl

turns_as : (n k : ℕ) (P : Parameters) (d : ℕ) → turns_after n k P d ≡ counted_on (is_turned P) (cond (eqb (k % sweep_steps n) 0) 0 d)
unfolding turns_after counted begins_sweep
turns_as n k P d = rw (turn_as P)

rounded_as : (exact : Bool) (d : ℕ) → rounded_after exact d ≡ counted_on (not exact) d
unfolding rounded_after counted
rounded_as exact d = refl

-- ---- one tile in tick T, among tiles A
module _ (n last K T : ℕ) (A : ℕ → ℕ → OneTile) (i j : ℕ) where
  abbrev s : Setting
  s = setting n

  abbrev new : OneTile
  new = tick (operations s) last K T A i j

  abbrev brought : Block Cell
  brought = incoming last A i j

  abbrev h : Float
  h = (A i (nearer i j)).row_wire

  abbrev v : Float
  v = (A (nearer j i) j).column_wire

  -- on the diagonal
  ruled_as : (b : Block Cell) → ruled_block s i b ≡ diagonal_parameters n i b
  ruled_as b = ruled_first n i (block_parameters (block_entries b))

  turned : (k : ℕ) (b : Block Cell) → turn_tile (operations s) k i j h v b ≡ cells_rotated n i j h v b
  turned k b = tile_turns s k i b j h v ∙ simp (rows_turned_lem, columns_turned_lem, ruled_as)

  cells_ticked : CellsTicked n K T i j (A i j) new brought h v
  cells_ticked =
      record {
        rotates = λ k l e. ticks.cells_rotated_lem (operations s) last K T A i j k l e ∙ turned k _;
        reads_last = ticks.cells_read_last (operations s) last K T A i j;
        else_stays = λ f. ticks.cells_kept (operations s) last K T A i j (λ k z. f k);
        no_step_stays = λ e. ticks.cells_kept (operations s) last K T A i j (λ k z. absurd (omega arith));
      }

  parameters_ticked : ParametersTicked n K T i j (A i j) new brought h v
  parameters_ticked =
      record {
        sends = λ k l e d.
            let w = ticks.parameters_sent (operations s) last K T A i j k l (omega arith) in
            let z = tile_sends s k i (cond (eqb k 0) (A i j).cells brought) in
            let y = ap sent (ruled_as (cond (eqb k 0) (A i j).cells brought)) in
            (w.0 ∙ rw (eq-eqb i j d) z.0 ∙ y, w.1 ∙ rw (eq-eqb i j d) z.1 ∙ y);
        passes_on = λ k l e d.
            let w = ticks.parameters_sent (operations s) last K T A i j k l e in (w.0 ∙ rw (ne_eqb i j d), w.1 ∙ rw (ne_eqb i j d));
        else_keeps = ticks.parameters_kept (operations s) last K T A i j;
      }

  kept_as : (k : ℕ) → k < K → T ≡ 3 * k → i ≡ j → new.kept ≡ counts_after n k (found_block s i (cond (eqb k 0) (A i j).cells brought)) (A i j).kept
  kept_as k l e d =
      ticks.kept_rotated (operations s) last K T A i j k l (omega arith)
      ∙ rw (eq-eqb i j d) (tile_keeps s k i (cond (eqb k 0) (A i j).cells brought) (A i j).kept)

  counts_ticked : CountsTicked n K T i j (A i j) new brought
  counts_ticked =
      record {
        turns_counted = λ k l e d.
            let b = cond (eqb k 0) (A i j).cells brought in
            ap (λ (x : Counts). x.turns) (kept_as k l e d)
            ∙ ap (λ (P : Parameters). turns_after n k P (A i j).kept.turns) (ruled_as b)
            ∙ turns_as n k (diagonal_parameters n i b) (A i j).kept.turns;
        rounded_counted = λ k l e d.
            let b = cond (eqb k 0) (A i j).cells brought in
            ap (λ (x : Counts). x.rounded) (kept_as k l e d)
            ∙ ap (λ (exact : Bool). rounded_after exact (A i j).kept.rounded) (ruled_exact_first n i _)
            ∙ rounded_as (diagonal_exact n i b) (A i j).kept.rounded;
        else_keeps = λ f. still_kept (eqb i j) refl f;
      }
    where
      still_kept : (b : Bool) → eqb i j ≡ b → (i ≡ j → (k : ℕ) → k < K → ¬ (T ≡ 3 * k)) → new.kept ≡ (A i j).kept
      still_kept true e f = ticks.kept_unrotated (operations s) last K T A i j (λ k l z. let d = eqb-true i j e in f d k l (omega arith))
      still_kept false e f = elsewhere (rotates (action_at K (distance i j) T)) refl
        where
          elsewhere : (b : Bool) → rotates (action_at K (distance i j) T) ≡ b → new.kept ≡ (A i j).kept
          elsewhere true z = let w = at_rotation K (distance i j) T z in ticks.kept_rotated (operations s) last K T A i j w.0 w.1 w.2 ∙ rw e
          elsewhere false z =
              ticks.kept_unrotated (operations s) last K T A i j (λ k l y. true≢false (sym (rotates_at K (distance i j) T k l y) ∙ z))

  -- in phase φ
  wires_set_lem : (inPhase : ℕ → Side → Side → ℕ → ℕ → Bool) (φ k : ℕ) → φ < 3 → k < K → T ≡ distance i j + 3 * k + φ
      → ((r s : Side) → eqb φ (phase_of last r s i j) ≡ inPhase last r s i j) → Sets inPhase last i j (A i j) new
  wires_set_lem inPhase φ k f l e g r c =
      ticks.wire_set (operations s) last K T A i j r c
      ∙ rw (ticks.wire_set_in (operations s) last K T A i j φ k f l e r c, g r c)

  wires_ticked : i ≤ last → j ≤ last → WiresTicked last K T i j (A i j) new
  wires_ticked p q =
      record {
        in_phase_0 = λ k l e. wires_set_lem set_in_phase0 0 k (omega arith) l (omega arith) (λ r c. phase_0_printed last r c i j);
        in_phase_1 = λ k l e. wires_set_lem set_in_phase1 1 k (omega arith) l e (λ r c. phase_1_printed last r c i j);
        in_phase_2 = λ k l e. wires_set_lem set_in_phase2 2 k (omega arith) l e (λ r c. phase_2_printed last r c i j p q);
        kept_before = λ l. ticks.wires_kept (operations s) last K T A i j (λ o. absurd (omega arith));
        kept_at_the_end = λ l. ticks.wires_kept (operations s) last K T A i j (λ o. l);
      }

  tile_ticked : i ≤ last → j ≤ last → TileTicked n last K T i j (A i j) new brought h v
  tile_ticked p q =
      record {
        cells = cells_ticked;
        parameters = parameters_ticked;
        wires = wires_ticked p q;
        mark = ticks.mark_set (operations s) last K T A i j ∙ ap (λ (b : Bool). (A i j).mark || b) (tile_fails s new.cells);
        counts = counts_ticked;
      }

-- ---- the record
tick_made : (x : Array) (r : Ticked) → Ticks x r → progress_answered r.answer ≡ given made → TickMade x r
tick_made x r p m =
    let e = made_array x r p m in
    record {
      same_order = ap (λ (y : Array). y.n) e;
      same_sweeps = ap (λ (y : Array). y.sweeps) e;
      next_tick = ap (λ (y : Array). y.tick) e;
      each_tile = λ i j hi hj.
          rw (made_tile x r p m i j hi hj)
          (tile_ticked x.n (processors_of x.n - 1) (steps_of x.n x.sweeps) x.tick (tile_in x) i j (omega arith) (omega arith));
    }

-- a cell at the start
first_cell : (n : ℕ) (l : List Float) (r c : ℕ) → cell (bordered (at n l) r c) (bordered identity r c) ≡ cell_at_first n l r c
unfolding bordered
first_cell n l r c = go (eqb r 0 || eqb c 0)
  where
    go : (b : Bool) → cell (cond b plus_zero (at n l r c)) (cond b plus_zero (identity r c))
        ≡ cond b (cell plus_zero plus_zero) (cell (at n l r c) (identity r c))
    go true = refl
    go false = refl

begun_started : (n : ℕ) (l : List Float) (i j : ℕ) → TileStarted n l i j (begun n l i j)
unfolding block_at ordered_line in_order_at slot tab cell_of start_of
begun_started n l i j = record { cells = simp (first_cell n l); wires = refl; parameters = (refl, refl); mark = refl; counts = (refl, refl) }

start_made : (n sweeps : ℕ) (l : List Float) (s : Started) → Starts n sweeps l s → answered s.answer ≡ given tt → StartMade n sweeps l s
start_made n sweeps l s p m =
    let e = started_array n sweeps l s p m in
    record {
      order = ap (λ (y : Array). y.n) e ∙ unfold start_array in refl;
      sweep_count = ap (λ (y : Array). y.sweeps) e ∙ unfold start_array in refl;
      tick_0 = ap (λ (y : Array). y.tick) e ∙ unfold start_array in refl;
      each_tile = λ i j hi hj. rw (started_tile n sweeps l s p m i j hi hj) (begun_started n l i j);
    }

pub tiles_as_printed : TilesAsPrinted
tiles_as_printed =
    record {
      starts = start_made;
      ticks = tick_made;
      wires_lead = λ x r s i j hi hj. ticks.wire_arrives (processors_of x.n - 1) (tile_in x) r s i j (omega arith) (omega arith);
    }
