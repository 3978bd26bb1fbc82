-- Document 02 (iii), each part by the law that proves it. Assumes nothing.
use Prim.Native.Nat.{ℕ, suc, ◌-◌, ◌*◌, ◌≤◌, ◌<◌, min}
use mathlib.Core.Path.{◌≡◌, refl, sym, ap, fun_ext, ◌∙◌}
use mathlib.Core.Bool.{Bool, true, false, true≢false}
use mathlib.Core.List.{List}
use native.Mathlib.Nat.{mul-le-mul_right}
use native.Mathlib.Omega.{arith}
use borrow.Author.Tests.{ltb-true, ltb-false, ne_eqb}
use lib.Dec.{ltb}
use lib.ListN.{length}
use lib.Ieee.{Float}
use Rattle.refusal.specs.Answers.{given, answered}
use Rattle.lists.specs.Bounded.{count}
use Rattle.lists.proofs.Bounded.{count_all}
use Rattle.systolic.specs.Slots.{Side, left, right}
use Rattle.systolic.specs.Traffic.{sets_wire, receives, times_set_by_tile, over_tiles, wires_set, tiles_receive}
use Rattle.systolic.proofs.Clock.{receiving}
use Rattle.systolic.proofs.TileTicks as ticks
use Rattle.systolic.proofs.TrafficCounts.{wire_times, receive_times}
use Rattle.sizes.specs.Sizes.{is_order, processors_of, sweep_steps, steps_of, ticks_of, sizes_answer}
use Rattle.sizes.proofs.Orders.{processors_end}
use Rattle.forecast.specs.Forecast.{figures_of, forecast_of}
use Rattle.forecast.proofs.Answers.{forecast_given}
use Rattle.forecast.proofs.Counted.{values_counted, parameters_counted}
use Rattle.runs.specs.State.{State, start_of}
use Rattle.runs.specs.Cells.{setting}
use Rattle.plain_run.specs.Quiet.{quiet, sweeps_made}
use Rattle.plain_run.proofs.SweepsMade.{Ends, with_all, when_quiet, made_ends, made_within, report_sweeps}
use Rattle.tile.specs.Tiles.{operations}
use Rattle.array.specs.declared.Started.{Started}
use Rattle.array.specs.declared.Ticked.{Ticked}
use Rattle.array.proofs.MadeTicks.{made_tile}
use Rattle.array_run.specs.Results.{WholeReport}
use Rattle.array_agreement.specs.Hand.{ByHand, made_where}
use Rattle.array_agreement.proofs.QuietRuns.{whole_given}
use Rattle.array_agreement.proofs.HandCounts.{made_where_lem, all_made_where}
use Rattle.array_agreement.proofs.Neighbours as neighbours
use Rattle.claims.specs.Tiles.{tile_in}
use Rattle.claims.specs.Forecasts.{FiguresComputed, tick_sets, tick_receives, set_in_run, TicksCross, FiguresCounted, RunCounted}
use Rattle.claims.specs.Forecasts.{RunsCounted, TicksOfWholeRun, Forecasted, ForecastsAsStated}

figures_computed : FiguresComputed
unfolding forecast_of figures_of sizes_answer is_order
figures_computed = record { two_lines_lem = refl; eight_lines = refl; seven_lines = refl; three_lines = refl; thirty_two_lines = refl }

-- ---- what crosses the wires
ticks_cross : TicksCross
ticks_cross x r p m i j hi hj =
    let S = operations (setting x.n) in
    let last = processors_of x.n - 1 in
    let K = steps_of x.n x.sweeps in
    let wire = ticks.wire_set S last K x.tick (tile_in x) i j in
    let tile = made_tile x r p m i j hi hj in
    record {
      set = λ a b e. rw tile (wire a b ∙ rw e);
      not_set = λ a b e. rw tile (wire a b ∙ rw e);
      off_diagonal = λ e. (receiving K x.tick i j e).off_diagonal;
      received = λ e. rw tile (ticks.parameters_received S last K x.tick (tile_in x) i j e);
    }

module _ (n sweeps : ℕ) where
  -- where no sweep before the last is quiet all are made
  all_made : (X : State) → ((m : ℕ) → 1 ≤ m → m < sweeps → quiet n m X ≡ false) → {made : ℕ} → Ends n sweeps X made → made ≡ sweeps
  all_made X f (with_all none e) = e
  all_made X f (when_quiet j h none q e) = e ∙ go (ltb (suc j) sweeps) refl
    where
      go : (b : Bool) → ltb (suc j) sweeps ≡ b → suc j ≡ sweeps
      go true z = absurd (true≢false (sym q ∙ f (suc j) (omega arith) (ltb-true _ _ z)))
      go false z = let o = ltb-false (suc j) sweeps z in omega (arith, o)

  whole_run : TicksOfWholeRun n sweeps (figures_of n sweeps)
  unfolding figures_of
  whole_run l r v fit reported e =
      let X = start_of n l in
      let made = sweeps_made n sweeps X in
      let ticks : reported.ticks ≡ ticks_of n made =
      ap (λ (d : WholeReport). d.ticks) (whole_given n sweeps l r v fit reported e).1 ∙ ap (ticks_of n) (report_sweeps n sweeps X) in
      let fewer : steps_of n made ≤ steps_of n sweeps = mul-le-mul_right (sweep_steps n) (made_within n X sweeps) in
      (omega (arith, ticks, fewer), λ f. ticks ∙ ap (ticks_of n) (all_made X f (made_ends n X sweeps)))

  -- ---- the counts
  module _ (order : is_order n ≡ true) where
    one_more : suc (processors_of n - 1) ≡ processors_of n
    one_more = sym (processors_end n order)

    figures_counted : FiguresCounted n sweeps (figures_of n sweeps)
    unfolding figures_of
    figures_counted =
        record {
          values = values_counted n sweeps order;
          parameters = parameters_counted n sweeps order;
          each_wire = λ a b i j hi hj. rw one_more at (wire_times (processors_of n - 1) (steps_of n sweeps) i j (omega arith) (omega arith) a b);
          each_tile = λ i j hi hj d.
              let w = receive_times (processors_of n - 1) (steps_of n sweeps) i j (omega arith) (omega arith) in rw (one_more, ne_eqb i j d) at w;
        }

    -- ---- over the ticks of a run by hand
    module _ (l : List Float) (s : Started) (rs : List Ticked) (h : ByHand n sweeps l s rs) (e : answered s.answer ≡ given tt) where
      made_so_far : made_where (λ x. true) s rs ≡ min (ticks_of n sweeps) (length rs)
      made_so_far = made_where_lem n sweeps (λ x. true) (λ T. true) (λ x p q. refl) l s rs h e ∙ count_all _ _ (λ T z. refl)

      module _ (all : ticks_of n sweeps ≤ length rs) where
        set_in_run_lem : (a b : Side) (i j : ℕ) → made_where (tick_sets a b i j) s rs
            ≡ count (λ T. sets_wire (processors_of n - 1) (steps_of n sweeps) T a b i j) (ticks_of n sweeps)
        set_in_run_lem a b i j = all_made_where n sweeps (tick_sets a b i j) _ (λ x p q. rw (p, q)) l s rs h e all

        received_in_run : (i j : ℕ) → made_where (tick_receives i j) s rs ≡ count (λ T. receives (steps_of n sweeps) T i j) (ticks_of n sweeps)
        received_in_run i j = all_made_where n sweeps (tick_receives i j) _ (λ x p q. rw (p, q)) l s rs h e all

        tile_in_run : (i j : ℕ) → times_set_by_tile (processors_of n - 1) (steps_of n sweeps) (ticks_of n sweeps) i j ≡ set_in_run s rs i j
        tile_in_run i j = rw (set_in_run_lem left left i j, set_in_run_lem left right i j, set_in_run_lem right left i j, set_in_run_lem right right i j)

        over_tiles_lem : (f g : ℕ → ℕ → ℕ) → ((i j : ℕ) → f i j ≡ g i j) → 2 * over_tiles (suc (processors_of n - 1)) f ≡ 2 * over_tiles (processors_of n) g
        over_tiles_lem f g same = rw one_more (ap (λ h. 2 * over_tiles (processors_of n) h) (fun_ext (λ i. fun_ext (λ j. same i j))))

        run_counted : RunCounted (processors_of n) (figures_of n sweeps) s rs
        unfolding figures_of wires_set tiles_receive
        run_counted =
            record {
              ticks = let w = made_so_far in omega arith;
              values = values_counted n sweeps order ∙ over_tiles_lem _ _ tile_in_run;
              parameters = parameters_counted n sweeps order ∙ over_tiles_lem _ _ (λ i j. sym (received_in_run i j));
            }

    runs_counted : RunsCounted n sweeps (figures_of n sweeps)
    unfolding figures_of
    runs_counted l s rs h e = record { made_so_far = made_so_far l s rs h e; once_all_made = λ w. run_counted l s rs h e (omega arith) }

    forecasted : Forecasted n sweeps (figures_of n sweeps)
    forecasted =
        record {
          figures_are = unfold figures_of in record { ticks = refl; values = refl; parameters = refl };
          figures_counted = figures_counted;
          runs_counted = runs_counted;
          ticks_of_whole_run = whole_run;
        }

pub forecasts_as_stated : ForecastsAsStated
unfolding forecast_of sizes_answer
forecasts_as_stated =
    record {
      forecast_answers = λ n sweeps. refl;
      figures_computed = figures_computed;
      ticks_cross = ticks_cross;
      nothing_else_received = λ x y e f g r s p q i j. neighbours.array_neighbourhood x y e f g i j (λ z. z) p q;
      forecasted = λ n sweeps f e. let w = forecast_given n sweeps e in rw w.1 (forecasted n sweeps w.0);
    }
