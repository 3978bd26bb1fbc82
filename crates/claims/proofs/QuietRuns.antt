-- The counts of the tiles and the ticks of the array's run, each part by the law that proves it. Assumes nothing.
use Prim.Native.Nat.{ℕ, suc, ◌+◌, ◌-◌, ◌*◌, ◌≤◌, ◌<◌}
use mathlib.Core.Path.{◌≡◌, refl, sym, ap, ◌∙◌}
use mathlib.Core.Bool.{Bool, true, false}
use native.Mathlib.Omega.{arith}
use lib.ListN.{length}
use Rattle.refusal.specs.Answers.{Answered, given, refused}
use Rattle.lists.specs.Bounded.{total}
use Rattle.lists.proofs.Bounded.{any_from, count_ext}
use Rattle.sizes.specs.Sizes.{processors_of, sweep_steps, steps_of}
use Rattle.sizes.proofs.Orders.{order_is}
use Rattle.matrix.specs.Matrix.{flat}
use Rattle.matrix.proofs.AcceptedEntries.{accepted_long}
use Rattle.runs.specs.State.{start_of}
use Rattle.runs.specs.Outcome.{Outcome}
use Rattle.runs.proofs.Verdicts.{Begins, begins, begun}
use Rattle.plain_run.specs.Met.{pair_met, turns_in, turns_from}
use Rattle.plain_run.proofs.RunResults.{accepted_run}
use Rattle.tile_schedule.specs.Answers.{Tick, made, stopped, progress_answered, progress_of}
use Rattle.tile_schedule.proofs.Answers.{made_means}
use Rattle.tile.specs.Tiles.{the_tile}
use Rattle.array.specs.declared.Array.{Array}
use Rattle.array.specs.declared.Ticked.{Ticked}
use Rattle.array.specs.Arrays.{tile_at, the_array, Ticks}
use Rattle.array.specs.Runs.{start_array, next_array, ticked}
use Rattle.array.proofs.MadeTicks.{made_array, is_given_lem, started_array}
use Rattle.array_run.specs.Results.{WholeReport, matrix_in, vectors_in, rounded_pairs, handed_over}
use Rattle.array_run.specs.Advance.{ends_sweep, none_counted, with_sweeps, lowered, advanced_as, advanced}
use Rattle.array_run.specs.Whole.{final_array, whole_of}
use Rattle.array_run.proofs.Advances.{ends_it, ended_is, ends_means, made_tick, not_lowered, is_lowered, turn_lowers_none}
use Rattle.array_run.proofs.DiagonalCounts.{counts_none, some_counted, none_counted_lem}
use Rattle.array_run.proofs.Results.{over_given}
use Rattle.array_run.proofs.WholeRuns.{whole_accepted, final_order}
use Rattle.array_agreement.proofs.Hand.{last_is}
use Rattle.array_agreement.proofs.CountedRuns.{turns_after_lem}
use Rattle.array_agreement.proofs.QuietRuns.{final_stopped, whole_given}
use Rattle.claims.specs.Tiles.{is_turned, tile_in}
use Rattle.claims.specs.QuietSweeps.{TilesCountTurns, AdvanceIs, WholeRunAdvances, QuietSweepsAsStated}
use Rattle.claims.proofs.Histories.{starts_run}
use Rattle.claims.proofs.MetPairs.{at_its_turn_lem}
use Rattle.claims.proofs.Tiles.{turn_as}
use Rattle.claims.proofs.QuietSweeps.{quiet_means, sweeps_answered, same_sweeps, settles}

-- ---- the counts
tiles_count : TilesCountTurns
unfolding the_array the_tile turns_from turns_in
tiles_count n sweeps l fit list lists t rs h e j s i hi hs within turned no_more =
    let b : Begins n sweeps l (length l) (length l) = begins n sweeps l _ _ (is_given_lem n sweeps l t h.starts e) in
    let long = accepted_long n l fit b.entries in
    ap (λ (x : Array). (tile_at x.tiles i i).counts.turns)
    (last_is t rs h.ticks ∙ ap (ticked (length rs)) (started_array n sweeps l t h.starts e))
    ∙ turns_after_lem n sweeps l b.order b.few long j s i (length rs) hi hs within turned no_more
    ∙ count_ext _ _ (suc s) (λ k.
    turn_as (pair_met n (j * sweep_steps n + k) i (start_of n l)).parameters
    ∙ ap is_turned (sym (at_its_turn_lem n b.order list lists (start_of n l) (j * sweep_steps n + k) i)))

-- ---- one tick of the run
module _ (x : Array) (r : Ticked) (p : Ticks x r) where
  module _ (m : progress_answered r.answer ≡ given made) where
    is_made : given made ≡ progress_of x.n x.sweeps x.tick
    is_made = sym m ∙ p.answers

    advanced_is : advanced x ≡ lowered x.tick r.array
    advanced_is = made_tick x is_made ∙ ap (lowered x.tick) (sym (p.hands_back ∙ unfold next_array in refl))

    same_n : r.array.n ≡ x.n
    same_n = ap (λ (y : Array). y.n) (made_array x r p m)

    same_s : r.array.sweeps ≡ x.sweeps
    same_s = ap (λ (y : Array). y.sweeps) (made_array x r p m)

    some_steps : 0 < sweep_steps x.n
    some_steps = let o = order_is x.n (made_means x.n x.sweeps x.tick is_made).order in omega (arith, o.0)

    all_still : ((i : ℕ) → i < processors_of x.n → (tile_in r.array i i).kept.turns ≡ 0) → none_counted (processors_of r.array.n) r.array.tiles ≡ true
    unfolding the_array the_tile
    all_still f =
        sym (none_counted_lem r.array.tiles _ (processors_of x.n)
        (any_from (processors_of x.n) _ (λ i h. counts_none r.array.tiles i (f i h))) (ap processors_of (sym same_n)))

    lowers : (k : ℕ) → 1 ≤ k → k ≤ x.sweeps → x.tick + 3 ≡ 3 * (k * sweep_steps x.n)
        → ((i : ℕ) → i < processors_of x.n → (tile_in r.array i i).kept.turns ≡ 0) → advanced x ≡ with_sweeps k r.array
    lowers k some few when f =
        let e : k - 1 + 1 ≡ k = omega arith in
        let at : x.tick + 3 ≡ 3 * steps_of x.n (k - 1 + 1) = rw e when in
        advanced_is
        ∙ is_lowered x.tick r.array (rw (same_n, same_s) (ends_it x.n x.sweeps x.tick (k - 1) some_steps (omega arith) at)) (all_still f)
        (rw same_n (ended_is x.n x.sweeps x.tick (k - 1) some_steps (omega arith) at ∙ e))

    after_turn : (i : ℕ) → i < processors_of x.n → ¬ ((tile_in r.array i i).kept.turns ≡ 0) → advanced x ≡ r.array
    unfolding the_array the_tile
    after_turn i h f =
        advanced_is
        ∙ turn_lowers_none x.tick r.array (sym (some_counted r.array.tiles (processors_of r.array.n) i (rw same_n h) f))

    another_tick : ((k : ℕ) → 1 ≤ k → k ≤ x.sweeps → ¬ (x.tick + 3 ≡ 3 * (k * sweep_steps x.n))) → advanced x ≡ r.array
    another_tick f = advanced_is ∙ not_lowered x.tick r.array (rw (same_n, same_s) (go (ends_sweep x.n x.sweeps x.tick) refl))
      where
        go : (b : Bool) → ends_sweep x.n x.sweeps x.tick ≡ b → b ≡ false
        go true e = let w = ends_means x.n x.sweeps x.tick some_steps e in absurd (f w.0 w.1 w.2 w.3)
        go false e = refl

  not_made : ¬ (progress_answered r.answer ≡ given made) → advanced x ≡ x
  unfolding advanced
  not_made f = go (progress_of x.n x.sweeps x.tick) p.answers
    where
      go : (a : Answered Tick) → progress_answered r.answer ≡ a → advanced_as a x ≡ x
      go (given made) e = absurd (f e)
      go (given stopped) e = refl
      go (refused k values) e = refl

  advance_is : AdvanceIs x r
  advance_is = record { lowers = lowers; not_after_a_turn = after_turn; not_at_another_tick = another_tick; not_made = not_made }

-- ---- the whole run
-- the rounded pairs that the tiles on the diagonal count
pub pairs_counted : (N : ℕ) (x : Array) → rounded_pairs N x.tiles ≡ total N (λ i. (tile_in x i i).kept.rounded)
unfolding rounded_pairs the_array the_tile
pairs_counted N x = refl

at_the_end : WholeRunAdvances
at_the_end n sweeps l r v s rs reported fit h e =
    let ran = whole_given n sweeps l r v fit reported e in
    let b : Begins n sweeps l (length r) (length v) = (accepted_run n sweeps l r v ran.0).0 in
    let long = accepted_long n l fit b.entries in
    let x = final_array n sweeps l in
    let whole : handed_over x ≡ whole_of n sweeps l r v = whole_accepted n sweeps l r v (sym (begun n sweeps l _ _ b)) refl in
    let w = over_given x reported (ap (λ (o : Outcome WholeReport). o.answer) whole ∙ e) in
    let order : x.n ≡ n = final_order n sweeps l in
    let started : s.array ≡ start_array n sweeps l = started_array n sweeps l s h.starts (h.starts.answers ∙ starts_run n sweeps l _ _ b long) in
    rw started
    (record {
      has_stopped = final_stopped n sweeps l b.order b.few long;
      sweeps_made_lem = ap (λ (d : WholeReport). d.report.sweeps) w.0;
      rounded_counted =
          ap (λ (d : WholeReport). d.report.rounded) w.0
          ∙ ap (λ (k : ℕ). rounded_pairs (processors_of k) x.tiles) order
          ∙ pairs_counted (processors_of n) x;
      ticks_made = ap (λ (d : WholeReport). d.ticks) w.0;
      result_is = sym (ap (λ (o : Outcome WholeReport). o.result) whole) ∙ w.1 ∙ ap (λ (k : ℕ). flat k (matrix_in k x.tiles)) order;
      vectors_are = sym (ap (λ (o : Outcome WholeReport). o.vectors) whole) ∙ w.2 ∙ ap (λ (k : ℕ). flat k (vectors_in k x.tiles)) order;
    })

pub quiet_sweeps_as_stated : QuietSweepsAsStated
quiet_sweeps_as_stated =
    record {
      quiet_means = quiet_means;
      sweeps_answered = sweeps_answered;
      same_as_all_sweeps = same_sweeps;
      quiet_settles = settles;
      tiles_count_turns = tiles_count;
      advance_is = advance_is;
      whole_run_advances = at_the_end;
    }
