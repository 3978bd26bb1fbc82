-- Document 02 (vi): a run ends after the first sweep in which every pair was still. Sweeps count from 1, steps from 0.
-- That either run's answer has the sweeps made, and a refusal none, is on the pages `Refusals` and `Histories`, that
-- the results are those of all S sweeps on the page `PlainRuns`, the count of a tile in a tick on the page `Tiles`.
-- Definitions only.
use Rattle.std.specs.Prelude.{ℕ, suc, ◌+◌, ◌-◌, ◌*◌, ◌%◌, ◌≤◌, ◌<◌, ◌≡◌, true, false, cond, ◌&&◌, List, eqb, length, Float}
use Rattle.float64.specs.Values.{plus_zero}
use Rattle.refusal.specs.Answers.{given, answered}
use Rattle.lists.specs.Bounded.{count, total}
use Rattle.rotation.specs.declared.Parameters.{Parameters}
use Rattle.rotation.specs.declared.Parameters.TheVariants.{Still}
use Rattle.ordering.specs.declared.PairList.{PairList}
use Rattle.ordering.specs.Pairs.{Lists}
use Rattle.sizes.specs.Sizes.{is_order, processors_of, sweep_steps, first_line, steps_of, ticks_of}
use Rattle.matrix.specs.Matrix.{flat}
use Rattle.matrix_turns.specs.Turns.{parameters_of}
use Rattle.runs.specs.State.{State, start_of}
use Rattle.runs.specs.Outcome.{Report}
use Rattle.plain_run.specs.State.{after}
use Rattle.plain_run.specs.Quiet.{quiet, answered_run_of}
use Rattle.tile_schedule.specs.Answers.{made, stopped, progress_answered, progress_of}
use Rattle.array.specs.declared.Array.{Array}
use Rattle.array.specs.declared.Started.{Started}
use Rattle.array.specs.declared.Ticked.{Ticked}
use Rattle.array.specs.Arrays.{Ticks}
use Rattle.array_run.specs.Results.{WholeReport, matrix_in, vectors_in}
use Rattle.array_run.specs.Advance.{with_sweeps, advanced, advanced_by}
use Rattle.array_run.specs.Whole.{whole_of}
use Rattle.array_agreement.specs.Hand.{last_array, ByHand}
use Rattle.claims.specs.Histories.{Binary64}
use Rattle.claims.specs.PlainRuns.{processors_turned}
use Rattle.claims.specs.Report.{left_register, right_register}
use Rattle.claims.specs.Tiles.{is_turned, tile_in}

-- ---- quiet sweeps
-- What processor k, from 1, turns by in a step with this list of pairs: the parameters at its turn, once the processors
-- before it have had theirs. Processor 1 of an odd order is always still. X is before the step.
abbrev pub at_its_turn : ℕ → PairList → ℕ → State → Parameters
at_its_turn n list k X =
    cond (eqb (n % 2) 1 && eqb k 1) Still
    (parameters_of (left_register list k) (right_register list k) (processors_turned n list (k - 1) X).matrix)

-- Every pair of sweep m is still.
abbrev pub EveryPairStill : ℕ → (ℕ → PairList) → ℕ → State → Type 0
EveryPairStill n list m X = (s k : ℕ) → s < sweep_steps n → 1 ≤ k → k ≤ processors_of n
    → (let step = (m - 1) * sweep_steps n + s in at_its_turn n (list step) k (after n step X) ≡ Still)

abbrev pub QuietMeans : Type 0
QuietMeans =
    (n : ℕ) → is_order n ≡ true → (list : ℕ → PairList) → ((step : ℕ) → Lists n step (list step)) → (m : ℕ) (X : State)
    → (EveryPairStill n list m X → quiet n m X ≡ true) × (quiet n m X ≡ true → EveryPairStill n list m X)

-- ---- the sweeps made
-- The number of sweeps made is the first quiet one, or S if none is quiet.
pub data FirstQuiet (n S : ℕ) (X : State) (made : ℕ) : Type 0 where
  the_first : 1 ≤ made → made ≤ S → quiet n made X ≡ true → ((m : ℕ) → 1 ≤ m → m < made → quiet n m X ≡ false)
      → FirstQuiet n S X made
  none_is : ((m : ℕ) → 1 ≤ m → m ≤ S → quiet n m X ≡ false) → made ≡ S → FirstQuiet n S X made

abbrev pub SweepsAnswered : Type 0
SweepsAnswered =
    (n sweeps : ℕ) (l r v : List Float) (reported : Report) → (answered_run_of n sweeps l r v).answer ≡ given reported
    → FirstQuiet n sweeps (start_of n l) reported.sweeps

-- A run of as many sweeps as it made leaves the same: the matrix and the eigenvectors of all S sweeps, bit for bit.
abbrev pub SameAsAllSweeps : Type 0
SameAsAllSweeps =
    (n sweeps : ℕ) (l r v : List Float) (reported : Report) → (answered_run_of n sweeps l r v).answer ≡ given reported
    → answered_run_of n reported.sweeps l r v ≡ answered_run_of n sweeps l r v

-- After a quiet sweep every entry off the diagonal is +0, line 0 of an odd order too, and no later step changes a bit,
-- whatever the entries are.
pub record NothingChanges (n m : ℕ) (X : State) : Type 0 where
  pub off_diagonal : (r c : ℕ) → first_line n ≤ r → r ≤ n → first_line n ≤ c → c ≤ n → ¬ (r ≡ c)
      → (after n (m * sweep_steps n) X).matrix r c ≡ plus_zero
  pub no_later_step : (K : ℕ) → m * sweep_steps n ≤ K → after n K X ≡ after n (m * sweep_steps n) X

abbrev pub QuietSettles : Type 0
QuietSettles = (n m : ℕ) (X : State) → is_order n ≡ true → 1 ≤ m → quiet n m X ≡ true → NothingChanges n m X

-- ---- the counts of the tiles
-- In a run by hand the tile of processor i + 1 keeps its count of turns in the current sweep: once it has made its
-- rotations of j sweeps and of s + 1 steps of the next, z in all, and no more, how often its pair turned in these
-- s + 1.
abbrev pub TilesCountTurns : Type 0
TilesCountTurns =
    (n sweeps : ℕ) (l : List Float) → Binary64 l → (list : ℕ → PairList) → ((step : ℕ) → Lists n step (list step))
    → (t : Started) (rs : List Ticked) → ByHand n sweeps l t rs → answered t.answer ≡ given tt
    → (j s i : ℕ) → i < processors_of n → s < sweep_steps n
    → (let z = suc (j * sweep_steps n + s) in
    z ≤ steps_of n sweeps → 3 * z < length rs + 3 → (z < steps_of n sweeps → length rs ≤ 3 * z)
    → (tile_in (last_array t rs) i i).kept.turns
    ≡ count (λ k. (let step = j * sweep_steps n + k in
    is_turned (at_its_turn n (list step) (i + 1) (after n step (start_of n l))))) (suc s))

-- ---- the array's run
-- One tick of the run: a tick, and right after the tick of the last rotations on the diagonal in a sweep S is lowered
-- to that sweep, if it was quiet: no tile on the diagonal counts a turn. A tick that is not made changes nothing.
pub record AdvanceIs (x : Array) (r : Ticked) : Type 0 where
  pub lowers : progress_answered r.answer ≡ given made
      → (m : ℕ) → 1 ≤ m → m ≤ x.sweeps → x.tick + 3 ≡ 3 * (m * sweep_steps x.n)
      → ((i : ℕ) → i < processors_of x.n → (tile_in r.array i i).kept.turns ≡ 0)
      → advanced x ≡ with_sweeps m r.array
  pub not_after_a_turn : progress_answered r.answer ≡ given made
      → (i : ℕ) → i < processors_of x.n → ¬ ((tile_in r.array i i).kept.turns ≡ 0)
      → advanced x ≡ r.array
  pub not_at_another_tick : progress_answered r.answer ≡ given made
      → ((m : ℕ) → 1 ≤ m → m ≤ x.sweeps → ¬ (x.tick + 3 ≡ 3 * (m * sweep_steps x.n)))
      → advanced x ≡ r.array
  pub not_made : ¬ (progress_answered r.answer ≡ given made) → advanced x ≡ x

-- The whole run is a start and then such ticks, until the array has stopped; it reports the S and the number of ticks
-- of the record at the end and the sum of the rounded pairs that the tiles on the diagonal count, and leaves its cells.
-- `advanced_by k` makes k of them.
pub record AtTheEnd (n : ℕ) (x : Array) (reported : WholeReport) (result vectors : List Float) : Type 0 where
  pub has_stopped : progress_of x.n x.sweeps x.tick ≡ given stopped
  pub sweeps_made_lem : reported.report.sweeps ≡ x.sweeps
  pub rounded_counted : reported.report.rounded ≡ total (processors_of n) (λ i. (tile_in x i i).kept.rounded)
  pub ticks_made : reported.ticks ≡ x.tick
  pub result_is : result ≡ flat n (matrix_in n x.tiles)
  pub vectors_are : vectors ≡ flat n (vectors_in n x.tiles)

abbrev pub WholeRunAdvances : Type 0
WholeRunAdvances =
    (n sweeps : ℕ) (l r v : List Float) (s : Started) (rs : List Ticked) (reported : WholeReport)
    → Binary64 l → ByHand n sweeps l s rs → (whole_of n sweeps l r v).answer ≡ given reported
    → AtTheEnd n (advanced_by (ticks_of n sweeps) s.array) reported (whole_of n sweeps l r v).result
    (whole_of n sweeps l r v).vectors

pub record QuietSweepsAsStated : Type 0 where
  pub quiet_means : QuietMeans
  pub sweeps_answered : SweepsAnswered
  pub same_as_all_sweeps : SameAsAllSweeps
  pub quiet_settles : QuietSettles
  pub tiles_count_turns : TilesCountTurns
  pub advance_is : (x : Array) (r : Ticked) → Ticks x r → AdvanceIs x r
  pub whole_run_advances : WholeRunAdvances
