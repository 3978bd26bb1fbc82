-- Document 01, "The array": the start, and the ticks one after the other. Definitions only.
use Rattle.std.specs.Prelude.{ℕ, zero, suc, ◌+◌, ◌*◌, ◌/◌, ◌%◌, ◌≤◌, ◌≡◌, true, List, length, Float}
use Rattle.refusal.specs.Answers.{Answered, given, refused, answered}
use Rattle.lists.specs.Tabulate.{tabulate}
use Rattle.sizes.specs.Sizes.{most_processors, is_order, most_sweeps, ticks_of}
use Rattle.runs.specs.Outcome.{before_run}
use Rattle.tile_schedule.specs.Answers.{progress_of}
use Rattle.tile_start.specs.Beginning.{zero_part, starting_tile, start_tile}
use Rattle.array.specs.declared.Array.{Array}
use Rattle.array.specs.declared.Started.{Started}
use Rattle.array.specs.Arrays.{array_of}

-- ---- the start
unfoldable pub start_array : ℕ → ℕ → List Float → Array
start_array n sweeps l =
    record {
      n = n;
      sweeps = sweeps;
      tick = 0;
      tiles = tabulate (most_processors * most_processors) (λ k. start_tile n l (k / most_processors) (k % most_processors));
    }

-- Zeros only.
unfoldable pub no_array : Array
no_array = record { n = 0; sweeps = 0; tick = 0; tiles = tabulate (most_processors * most_processors) (λ k. starting_tile zero_part) }

-- What a start is refused by: what a run with results of the same length is refused by before it.
abbrev pub start_answer : ℕ → ℕ → List Float → Answered Unit
start_answer n sweeps l = before_run n sweeps l (length l) (length l)

abbrev pub started_of : Answered Unit → ℕ → ℕ → List Float → Array
started_of (given x) n sweeps l = start_array n sweeps l
started_of (refused k values) n sweeps l = no_array

pub record Starts (n sweeps : ℕ) (l : List Float) (r : Started) : Type 0 where
  pub answers : answered r.answer ≡ start_answer n sweeps l
  pub hands_back : r.array ≡ started_of (start_answer n sweeps l) n sweeps l

-- ---- the ticks
-- The array that a tick gives back.
unfoldable pub next_array : Array → Array
next_array x = array_of (progress_of x.n x.sweeps x.tick) x

-- The array after k ticks.
unfoldable pub ticked : ℕ → Array → Array
ticked zero x = x
ticked (suc k) x = next_array (ticked k x)

-- k more ticks are all made.
pub record GoesOn (x : Array) (k : ℕ) : Type 0 where
  pub order : is_order x.n ≡ true
  pub few : x.sweeps ≤ most_sweeps
  pub room : x.tick + k ≤ ticks_of x.n x.sweeps
