-- The whole run ends with the first quiet sweep, as the plain run does, and is the plain run in every bit. Assumes nothing.
use Prim.Native.Nat.{ℕ, zero, suc, ◌+◌, ◌-◌, ◌*◌, ◌/◌, ◌%◌, ◌<◌, ◌≤◌}
use mathlib.Core.Path.{◌≡◌, refl, sym, ap, subst, ◌∙◌, fun_ext}
use mathlib.Core.Bool.{true, false, not}
use mathlib.Core.List.{List}
use native.Mathlib.Nat.{mul-le-mul_right}
use native.Mathlib.Numerals.{add-one}
use native.Mathlib.Omega.{arith}
use lib.Dec.{T, eqb}
use lib.ListN.{length, get_or}
use lib.Ieee.{Float, nan, binary64, fits}
use Rattle.refusal.specs.Answers.{Answered, given, refused, unless_refused}
use Rattle.refusal.proofs.RefusedOutcomes.{giving_was}
use Rattle.lists.specs.Tabulate.{tabulate}
use Rattle.lists.proofs.Bounded.{any_within}
use Rattle.systolic.proofs.Ticks.{fewer_steps}
use Rattle.sizes.specs.Sizes.{most_processors, most_sweeps, is_order, processors_of, sweep_steps, steps_of, ticks_of}
use Rattle.sizes.proofs.Orders.{order_is, steps_next}
use Rattle.matrix.proofs.AcceptedEntries.{accepted_long}
use Rattle.runs.specs.State.{State, start_of}
use Rattle.runs.specs.Outcome.{before_run, Outcome, results_kept, answering}
use Rattle.runs.specs.Cells.{Setting, setting}
use Rattle.runs.proofs.Verdicts.{Begins, begins}
use Rattle.plain_run.specs.Run.{ran_of, run_of}
use Rattle.plain_run.specs.Met.{turns_from}
use Rattle.plain_run.specs.Quiet.{quiet, sweeps_made, report_of}
use Rattle.plain_run.proofs.KeptCounts.{none_turns}
use Rattle.plain_run.proofs.SweepsMade.{NoneQuiet, Ends, with_all, when_quiet, made_ends, made_within, ran_made}
use Rattle.tile_schedule.specs.Answers.{stopped, progress_of}
use Rattle.tile_schedule.proofs.Answers.{is_stopped}
use Rattle.tile.specs.declared.Tile.{Tile}
use Rattle.tile.specs.Tiles.{operations}
use Rattle.array.specs.declared.Array.{Array}
use Rattle.array.specs.Arrays.{tile_at, the_array, tiles_after}
use Rattle.array.specs.Runs.{start_array, ticked}
use Rattle.array.proofs.TicksInARow.{ticked_order, ticked_more, tiles_from}
use Rattle.array_run.specs.Results.{WholeReport, reporting, handed_over}
use Rattle.array_run.specs.Advance.{none_counted, with_sweeps}
use Rattle.array_run.specs.Whole.{final_array, whole_of}
use Rattle.array_run.proofs.Advances.{diagonal_done, Swept, swept_none, swept_tick, swept_by_ticks, swept_more, swept_quiet, swept_all}
use Rattle.array_agreement.proofs.Agreement.{tiles_by, record_by, ticked_is, ticked_stays, handed_is, start_clean}
use Rattle.array_agreement.proofs.CountedRuns.{turns_after_lem}

-- ---- the tiles of a run of fewer steps, until its diagonal tiles stop
module _ (s : Setting) (N K L : ℕ) (o : K ≤ L) where
  same_tiles : (t : ℕ) (l : List Tile) → t < 3 * K → tiles_after s N K t l ≡ tiles_after s N L t l
  unfolding tiles_after
  same_tiles t l h =
      ap (tabulate (most_processors * most_processors))
      (fun_ext (λ k. rw (fewer_steps (operations s) (N - 1) K L t h o (the_array l) (k / most_processors) (k % most_processors))))

  same_tiles_from : (t : ℕ) (l : List Tile) → t ≤ 3 * K → tiles_from s N K 0 t l ≡ tiles_from s N L 0 t l
  unfolding tiles_from
  same_tiles_from zero l h = refl
  same_tiles_from (suc t) l h =
      ap (tiles_after s N K (0 + t)) (same_tiles_from t l (omega arith)) ∙ same_tiles (0 + t) (tiles_from s N L 0 t l) (omega arith)

module _ (n S : ℕ) (l : List Float) (order : is_order n ≡ true) (few : S ≤ most_sweeps) (long : length l ≡ n * n) where
  abbrev X : State
  X = start_of n l

  abbrev start : Array
  start = start_array n S l

  abbrev N : ℕ
  N = processors_of n

  abbrev done : ℕ → ℕ
  done m = diagonal_done n m

  fits_in : (m : ℕ) → m ≤ S → steps_of n m ≤ steps_of n S
  fits_in m h = mul-le-mul_right (sweep_steps n) h

  -- right after the last rotations on the diagonal in sweep j + 1 its tiles count their turns in that sweep
  sweep_turns : (j : ℕ) → j < S → (i : ℕ) → i < N
      → (tile_at (ticked (done (j + 1)) start).tiles i i).counts.turns ≡ turns_from n (j * sweep_steps n) (sweep_steps n) i X
  sweep_turns j h i hi =
      let L = sweep_steps n in
      let some = (order_is n order).0 in
      let next = steps_next n j in
      let fit = fits_in (j + 1) (omega arith) in
      let all : suc (j * L + (L - 1)) ≡ steps_of n (j + 1) = omega (arith, next, some) in
      let whole : suc (L - 1) ≡ L = omega (arith, some) in
      turns_after_lem n S l order few long j (L - 1) i (done (j + 1)) hi (omega (arith, some)) (omega (arith, all, fit))
      (omega (arith, all, next, some)) (λ _. omega (arith, all))
      ∙ ap (λ (k : ℕ). turns_from n (j * L) k i X) whole

  -- so none counts a turn exactly if the sweep is quiet
  pub counts_quiet : (j : ℕ) → j < S → none_counted N (ticked (done (j + 1)) start).tiles ≡ quiet n (suc j) X
  unfolding none_counted
  counts_quiet j h =
      ap not (any_within N N _ _ (omega arith) (λ i hi. ap (λ (t : ℕ). not (eqb t 0)) (sweep_turns j h i hi)) (λ i a b. absurd (omega arith)))
      ∙ none_turns (setting n) order X j

  -- ---- the start
  starts : (is_order start.n ≡ true) × (start.sweeps ≤ most_sweeps) × (start.tick ≡ 0)
  starts = unfold start_array in (order, few, refl)

  counts_at : (j : ℕ) → j < S → {z : Array} → z ≡ ticked (done (j + 1)) start → none_counted (processors_of z.n) z.tiles ≡ quiet n (suc j) X
  unfolding start_array
  counts_at j h e =
      ap (λ (w : Array). none_counted (processors_of w.n) w.tiles) e
      ∙ ap (λ (k : ℕ). none_counted (processors_of k) (ticked (done (j + 1)) start).tiles) (ticked_order (done (j + 1)) start)
      ∙ counts_quiet j h

  -- as long as no sweep is quiet nothing is lowered
  turning : (j : ℕ) → j ≤ S → NoneQuiet n j X → Swept start j (ticked (done j) start)
  unfolding start_array
  turning zero h none = let w = swept_none start starts.0 starts.1 starts.2 in subst (λ (y : Array). Swept start 0 y) w.by_ticks w
  turning (suc j) h none =
      let y = ticked (done j) start in
      let w = turning j (omega arith) (λ i o. none i (omega arith)) in
      let z = ticked (done (j + 1) - y.tick) y in
      let e : z ≡ ticked (done (j + 1)) start = swept_by_ticks start starts.0 starts.1 starts.2 (omega arith) w refl in
      let turns : none_counted (processors_of z.n) z.tiles ≡ false = counts_at j (omega arith) e ∙ none j (omega arith) in
      let v : Swept start (j + 1) z = swept_more start starts.0 starts.1 starts.2 (omega arith) w refl turns in
      subst (λ (m : ℕ). Swept start m (ticked (done m) start)) (add-one j) (subst (λ (y : Array). Swept start (j + 1) y) e v)

  -- ---- the array at the end
  final_all : NoneQuiet n S X → final_array n S l ≡ ticked (ticks_of n S) start
  unfolding start_array
  final_all none =
      let y = ticked (done S) start in
      let w = turning S (omega arith) none in
      let tick : y.tick ≡ done S = swept_tick start starts.0 starts.1 starts.2 S (omega arith) w in
      let all : ticks_of n S - y.tick + done S ≡ ticks_of n S = omega (arith, tick) in
      sym (swept_all start starts.0 starts.1 starts.2 w refl)
      ∙ sym (ticked_more (ticks_of n S - y.tick) (done S) start)
      ∙ ap (λ (k : ℕ). ticked k start) all

  -- a record whose S is lowered is that of a run of so many sweeps
  module _ (m : ℕ) (h : m ≤ S) (less : m ≤ most_sweeps) where
    abbrev shorter : Array
    shorter = start_array n m l

    same_record : with_sweeps m (record_by n S l order few long (done m)) ≡ record_by n m l order less long (done m)
    unfolding record_by tiles_by start_array
    same_record =
        ap (λ (k : List Tile). record { n = n; sweeps = m; tick = done m; tiles = k })
        (sym (same_tiles_from (setting n) N (steps_of n m) (steps_of n S) (fits_in m h) (done m) (start_array n S l).tiles (omega arith)))

    lowered_is : with_sweeps m (ticked (done m) start) ≡ ticked (done m) shorter
    lowered_is =
        let fit = fits_in m h in
        ap (with_sweeps m) (ticked_is n S l order few long (done m) (omega (arith, fit)))
        ∙ same_record
        ∙ sym (ticked_is n m l order less long (done m) (omega arith))

    -- and the ticks of all S sweeps make no more of it than its own
    lowered_ends : ticked (ticks_of n S - done m) (with_sweeps m (ticked (done m) start)) ≡ ticked (ticks_of n m) shorter
    lowered_ends =
        let fit = fits_in m h in
        let all : ticks_of n S - done m + done m ≡ ticks_of n S - ticks_of n m + ticks_of n m = omega (arith, fit) in
        ap (ticked (ticks_of n S - done m)) lowered_is
        ∙ sym (ticked_more (ticks_of n S - done m) (done m) shorter)
        ∙ ap (λ (k : ℕ). ticked k shorter) all
        ∙ ticked_stays n m l order less long (ticks_of n S - ticks_of n m)
        ∙ sym (ticked_is n m l order less long (ticks_of n m) (omega arith))

  final_quiet : (j : ℕ) → j < S → NoneQuiet n j X → quiet n (suc j) X ≡ true → final_array n S l ≡ ticked (ticks_of n (j + 1)) (start_array n (j + 1) l)
  unfolding start_array
  final_quiet j h none q =
      let y = ticked (done j) start in
      let w = turning j (omega arith) none in
      let z = ticked (done (j + 1) - y.tick) y in
      let e : z ≡ ticked (done (j + 1)) start = swept_by_ticks start starts.0 starts.1 starts.2 h w refl in
      sym (swept_quiet start starts.0 starts.1 starts.2 h w refl (counts_at j h e ∙ q) refl)
      ∙ ap (λ (x : Array). ticked (ticks_of n S - done (j + 1)) (with_sweeps (j + 1) x)) e
      ∙ lowered_ends (j + 1) (omega arith) (omega arith)

  -- the array at the end is that of a run of the sweeps made
  pub final_is : let made = sweeps_made n S X in final_array n S l ≡ ticked (ticks_of n made) (start_array n made l)
  final_is = go (made_ends n X S)
    where
      go : {made : ℕ} → Ends n S X made → final_array n S l ≡ ticked (ticks_of n made) (start_array n made l)
      go (with_all none e) = subst (λ (m : ℕ). final_array n S l ≡ ticked (ticks_of n m) (start_array n m l)) (sym e) (final_all none)
      go (when_quiet j h none q e) =
          subst (λ (m : ℕ). final_array n S l ≡ ticked (ticks_of n m) (start_array n m l)) (add-one j ∙ sym e) (final_quiet j (omega arith) none q)

  -- and its next tick is stopped
  pub final_stopped : let x = final_array n S l in progress_of x.n x.sweeps x.tick ≡ given stopped
  final_stopped =
      let made = sweeps_made n S X in
      let less : made ≤ most_sweeps = let within = made_within n X S in omega (arith, within) in
      rw (final_is ∙ ticked_is n made l order less long (ticks_of n made) (omega arith))
      (unfold record_by in (sym (is_stopped n made (ticks_of n made) order less (omega arith))))

-- For every input: the whole run answers and leaves what the plain run does; where it is not refused it reports the same, and 3 K + N ticks for its
-- sweeps.
abbrev pub whole_report : ℕ → ℕ → List Float → WholeReport
whole_report n S l = let r = report_of n S (start_of n l) in reporting r (ticks_of n r.sweeps)

pub whole_agrees : (n S : ℕ) (l r v : List Float) → ((k : ℕ) → T (fits binary64 (get_or l k nan)))
    → whole_of n S l r v ≡ answering (whole_report n S l) (run_of n S l r v)
unfolding whole_of run_of report_of
whole_agrees n S l r v fitting = go (before_run n S l (length r) (length v)) refl
  where
    made : ℕ
    made = sweeps_made n S (start_of n l)

    accepted : Begins n S l (length r) (length v) → handed_over (final_array n S l) ≡ answering (whole_report n S l) (ran_of n S l)
    accepted b =
        let long = accepted_long n l fitting b.entries in
        let within = made_within n (start_of n l) S in
        ap handed_over (final_is n S l b.order b.few long)
        ∙ handed_is n made l b.order (omega (arith, b.few, within)) long (start_clean n S l _ _ fitting b)
        ∙ ap (answering (whole_report n S l)) (sym (ran_made n S l b.order))

    go : (a : Answered Unit) → before_run n S l (length r) (length v) ≡ a
        → unless_refused a (handed_over (final_array n S l)) (results_kept r v)
        ≡ answering (whole_report n S l) (unless_refused a (ran_of n S l) (results_kept r v))
    go (given x) e = accepted (begins n S l _ _ e)
    go (refused k values) e = refl

pub whole_given : (n S : ℕ) (l r v : List Float) → ((k : ℕ) → T (fits binary64 (get_or l k nan))) → (d : WholeReport)
    → (whole_of n S l r v).answer ≡ given d → ((run_of n S l r v).answer ≡ given tt) × (d ≡ whole_report n S l)
whole_given n S l r v fitting d e =
    giving_was (whole_report n S l) d (run_of n S l r v).answer (sym (ap (λ (o : Outcome WholeReport). o.answer) (whole_agrees n S l r v fitting)) ∙ e)
