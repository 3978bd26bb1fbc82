-- Document 02 (iii) and (vi): ticks and line traffic before a run. What document 02 calls a line of the array is a wire
-- here, and tiles are counted from 0. A forecast takes n and S alone, and what crosses the wires in a tick depends on
-- n, S and the tick alone, whatever the tiles hold: each statement is for spoiled runs too. Definitions only.
use Rattle.std.specs.Prelude.{ℕ, ◌+◌, ◌-◌, ◌*◌, ◌≤◌, ◌<◌, min, ◌≡◌, Bool, true, false, not, List, [], ◌∷◌, ltb, length, Float}
use Rattle.refusal.specs.Answers.{given, answered, giving, table}
use Rattle.lists.specs.Bounded.{count}
use Rattle.systolic.specs.Slots.{Side, left, right}
use Rattle.systolic.specs.Blocks.{cell as corner}
use Rattle.systolic.specs.Arrays.{nearer}
use Rattle.systolic.specs.Schedule.{interchange}
use Rattle.systolic.specs.Traffic.{sets_wire, receives, over_tiles, wires_set, tiles_receive}
use Rattle.sizes.specs.Sizes.{is_order, processors_of, steps_of}
use Rattle.runs.specs.State.{start_of}
use Rattle.plain_run.specs.Quiet.{quiet}
use Rattle.forecast.specs.declared.Figures.{Figures}
use Rattle.forecast.specs.Forecast.{figures_of, forecast_of}
use Rattle.tile_schedule.specs.Answers.{made, progress_answered}
use Rattle.array.specs.declared.Array.{Array}
use Rattle.array.specs.declared.Started.{Started}
use Rattle.array.specs.declared.Ticked.{Ticked}
use Rattle.array.specs.Arrays.{tile_at, Ticks}
use Rattle.array_run.specs.Results.{WholeReport}
use Rattle.array_run.specs.Whole.{whole_of}
use Rattle.array_agreement.specs.Hand.{ByHand, made_where}
use Rattle.array_agreement.specs.Neighbours.{AgreeWhere}
use Rattle.claims.specs.Histories.{Binary64}
use Rattle.claims.specs.Refusals.{when}
use Rattle.claims.specs.Tiles.{tile_in}

-- ---- what the call answers
-- 1 and 2, in document 01's order; otherwise the figures.
abbrev pub ForecastAnswers : Type 0
ForecastAnswers = (n sweeps : ℕ)
    → forecast_of n sweeps
    ≡ giving (figures_of n sweeps) (table (when (not (is_order n)) 1 ∷ when (ltb 16 sweeps) 2 ∷ []))

-- N and K are on the page `Sizes`, for even and odd orders.
pub record FiguresAre (n sweeps : ℕ) (f : Figures) : Type 0 where
  pub ticks : f.ticks ≡ 3 * steps_of n sweeps + processors_of n
  pub values : f.values ≡ 8 * processors_of n * processors_of n * steps_of n sweeps
  pub parameters : f.parameters ≡ 2 * processors_of n * (processors_of n - 1) * steps_of n sweeps

-- Computed: n = 2, S = 0 and n = 8, S = 1, for which document 01 has the ticks, two odd orders, and n = 32, S = 16.
pub record FiguresComputed : Type 0 where
  pub two_lines_lem : forecast_of 2 0 ≡ given (record { ticks = 1; values = 0; parameters = 0 })
  pub eight_lines : forecast_of 8 1 ≡ given (record { ticks = 25; values = 896; parameters = 168 })
  pub seven_lines : forecast_of 7 1 ≡ given (record { ticks = 25; values = 896; parameters = 168 })
  pub three_lines : forecast_of 3 1 ≡ given (record { ticks = 11; values = 96; parameters = 12 })
  pub thirty_two_lines : forecast_of 32 16 ≡ given (record { ticks = 1504; values = 1015808; parameters = 238080 })

-- ---- what crosses the wires in a tick
-- A tick of the record x sets the wire of tile (i, j) by the corner (a, b); tile (i, j) receives parameters in it.
abbrev pub tick_sets : Side → Side → ℕ → ℕ → Array → Bool
tick_sets a b i j x = sets_wire (processors_of x.n - 1) (steps_of x.n x.sweeps) x.tick a b i j

abbrev pub tick_receives : ℕ → ℕ → Array → Bool
tick_receives i j x = receives (steps_of x.n x.sweeps) x.tick i j

-- One tile in a tick that makes y of x. The wires that are set carry what Algorithm Interchange (document 000) says of
-- the new cells, each a value of the matrix and one of the eigenvectors, and the others keep theirs. A tile that
-- receives is off the diagonal, and passes on what comes along its row and along its column.
pub record Crosses (x y : Array) (i j : ℕ) : Type 0 where
  pub set : (a b : Side) → tick_sets a b i j x ≡ true
      → corner a b (tile_in y i j).wires ≡ corner a b (interchange i j (tile_in y i j).cells)
  pub not_set : (a b : Side) → tick_sets a b i j x ≡ false
      → corner a b (tile_in y i j).wires ≡ corner a b (tile_in x i j).wires
  pub off_diagonal : tick_receives i j x ≡ true → ¬ (i ≡ j)
  pub received : tick_receives i j x ≡ true
      → ((tile_in y i j).row_wire ≡ (tile_in x i (nearer i j)).row_wire)
      × ((tile_in y i j).column_wire ≡ (tile_in x (nearer j i) j).column_wire)

-- A tick that is made, of any record, whatever its tiles hold.
abbrev pub TicksCross : Type 0
TicksCross = (x : Array) (r : Ticked) → Ticks x r → progress_answered r.answer ≡ given made
    → (i j : ℕ) → i < processors_of x.n → j < processors_of x.n → Crosses x r.array i j

-- A tile takes in no parameter in any other tick: two arrays alike in order, sweeps, tick, the tile and the cell wires
-- that lead to it are alike in the tile after the tick, if only the parameter wires agree where it receives.
abbrev pub NothingElseReceived : Type 0
NothingElseReceived =
    (x y : Array) → x.n ≡ y.n → x.sweeps ≡ y.sweeps → x.tick ≡ y.tick
    → (r s : Ticked) → Ticks x r → Ticks y s
    → (i j : ℕ) → i < processors_of x.n → j < processors_of x.n
    → AgreeWhere (tick_receives i j x ≡ true) (processors_of x.n) x.tiles y.tiles i j
    → tile_at r.array.tiles i j ≡ tile_at s.array.tiles i j

-- ---- each figure equals the count over the ticks of the array's definition, 0 to 3 K + N - 1
-- `wires_set` is the sum over all tiles and all four corners of the number of ticks in which the wire is set, and
-- `tiles_receive` that over all tiles of the number of ticks in which they receive. A wire carries two values, one of
-- the matrix and one of the eigenvectors; a tile receives two parameters, one along its row and one along its column.
pub record FiguresCounted (n sweeps : ℕ) (f : Figures) : Type 0 where
  pub values : f.values ≡ 2 * wires_set (processors_of n - 1) (steps_of n sweeps) f.ticks
  pub parameters : f.parameters ≡ 2 * tiles_receive (processors_of n - 1) (steps_of n sweeps) f.ticks
  -- Each wire is set K times, and each tile off the diagonal receives K times.
  pub each_wire : (a b : Side) (i j : ℕ) → i < processors_of n → j < processors_of n
      → count (λ T. sets_wire (processors_of n - 1) (steps_of n sweeps) T a b i j) f.ticks ≡ steps_of n sweeps
  pub each_tile : (i j : ℕ) → i < processors_of n → j < processors_of n → ¬ (i ≡ j)
      → count (λ T. receives (steps_of n sweeps) T i j) f.ticks ≡ steps_of n sweeps

-- ---- and over the ticks of every run
-- After an accepted start come any number of ticks; `made_where` is the number of those that were made of a record that
-- passes a test. The matrix is any that a start accepts, and nothing is said of what becomes of it: spoiled runs too.
-- How often a tile set a wire, of its four.
abbrev pub set_in_run : Started → List Ticked → ℕ → ℕ → ℕ
set_in_run s rs i j =
    made_where (tick_sets left left i j) s rs + made_where (tick_sets left right i j) s rs
    + made_where (tick_sets right left i j) s rs + made_where (tick_sets right right i j) s rs

pub record RunCounted (N : ℕ) (f : Figures) (s : Started) (rs : List Ticked) : Type 0 where
  pub ticks : f.ticks ≡ made_where (λ x. true) s rs
  pub values : f.values ≡ 2 * over_tiles N (λ i j. set_in_run s rs i j)
  pub parameters : f.parameters ≡ 2 * over_tiles N (λ i j. made_where (tick_receives i j) s rs)

-- As many ticks are made as there are, but no more than the forecast says. Once all are made, the figures are their
-- number, twice the wires that they set over all tiles, and twice the tiles that received in them.
pub record CountedByHand (n : ℕ) (f : Figures) (s : Started) (rs : List Ticked) : Type 0 where
  pub made_so_far : made_where (λ x. true) s rs ≡ min f.ticks (length rs)
  pub once_all_made : f.ticks ≤ length rs → RunCounted (processors_of n) f s rs

abbrev pub RunsCounted : ℕ → ℕ → Figures → Type 0
RunsCounted n sweeps f =
    (l : List Float) (s : Started) (rs : List Ticked) → ByHand n sweeps l s rs → answered s.answer ≡ given tt
    → CountedByHand n f s rs

-- The most that a whole run can need: it reports no more ticks, and these if no sweep before the last is quiet.
abbrev pub TicksOfWholeRun : ℕ → ℕ → Figures → Type 0
TicksOfWholeRun n sweeps f =
    (l r v : List Float) → Binary64 l → (reported : WholeReport) → (whole_of n sweeps l r v).answer ≡ given reported
    → (reported.ticks ≤ f.ticks)
    × (((m : ℕ) → 1 ≤ m → m < sweeps → quiet n m (start_of n l) ≡ false) → reported.ticks ≡ f.ticks)

pub record Forecasted (n sweeps : ℕ) (f : Figures) : Type 0 where
  pub figures_are : FiguresAre n sweeps f
  pub figures_counted : FiguresCounted n sweeps f
  pub runs_counted : RunsCounted n sweeps f
  pub ticks_of_whole_run : TicksOfWholeRun n sweeps f

pub record ForecastsAsStated : Type 0 where
  pub forecast_answers : ForecastAnswers
  pub figures_computed : FiguresComputed
  pub ticks_cross : TicksCross
  pub nothing_else_received : NothingElseReceived
  pub forecasted : (n sweeps : ℕ) (f : Figures) → forecast_of n sweeps ≡ given f → Forecasted n sweeps f
