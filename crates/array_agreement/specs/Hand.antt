-- Document 01, "Runs by hand": one start and then any number of ticks. Ticks are listed with the last first. Definitions only.
use Rattle.std.specs.Prelude.{ℕ, zero, suc, ◌+◌, ◌≤◌, ◌≡◌, Bool, true, false, cond, ◌&&◌, List, [], ◌∷◌, ltb, length, Float}
use Rattle.refusal.specs.Answers.{Answered, given, refused, refused_by}
use Rattle.refusal.specs.declared.Refusal.TheVariants.{Order}
use Rattle.plain_run.specs.State.{after, spoiled}
use Rattle.sizes.specs.Sizes.{steps_of, processors_of, ticks_of}
use Rattle.runs.specs.State.{start_of}
use Rattle.tile_schedule.specs.Answers.{Tick, made, stopped, progress_answered}
use Rattle.array.specs.declared.Array.{Array}
use Rattle.array.specs.declared.Started.{Started}
use Rattle.array.specs.declared.Ticked.{Ticked}
use Rattle.array.specs.Arrays.{Ticks}
use Rattle.array.specs.Runs.{start_array, no_array, Starts, ticked}
use Rattle.array_run.specs.Results.{matrix_in, vectors_in, some_marked}

-- The record that the last call gave.
abbrev pub last_array : Started → List Ticked → Array
last_array s [] = s.array
last_array s (r ∷ rs) = r.array

-- Each tick gets the record that the call before it gave.
abbrev pub Follow : Started → List Ticked → Type 0
Follow s [] = Unit
Follow s (r ∷ rs) = Follow s rs × Ticks (last_array s rs) r

pub record ByHand (n sweeps : ℕ) (l : List Float) (s : Started) (rs : List Ticked) : Type 0 where
  pub starts : Starts n sweeps l s
  pub ticks : Follow s rs

-- What the ticks answered.
abbrev pub answers_of : List Ticked → List (Answered Tick)
answers_of [] = []
answers_of (r ∷ rs) = progress_answered r.answer ∷ answers_of rs

abbrev pub is_tick_made : Answered Tick → Bool
is_tick_made (given made) = true
is_tick_made (given stopped) = false
is_tick_made (refused k values) = false

-- How many of the ticks were made of a record that passes a test.
abbrev pub made_where : (Array → Bool) → Started → List Ticked → ℕ
made_where f s [] = 0
made_where f s (r ∷ rs) = cond (is_tick_made (progress_answered r.answer) && f (last_array s rs)) 1 0 + made_where f s rs

-- f 0 to f (k - 1), the last first.
abbrev pub counted : (ℕ → Answered Tick) → ℕ → List (Answered Tick)
counted f zero = []
counted f (suc k) = f k ∷ counted f k

-- After a refused start every tick is refused by 1 and gives the zeros back.
pub record RefusedByHand (s : Started) (rs : List Ticked) : Type 0 where
  pub all_refused : answers_of rs ≡ counted (λ t. refused_by Order) (length rs)
  pub zeros_back : last_array s rs ≡ no_array

-- The first 3 K + N ticks are made and the rest are stopped.
unfoldable pub first_made : ℕ → ℕ → Answered Tick
first_made last t = cond (ltb t last) (given made) (given stopped)

-- r is a real line of a matrix of order n.
abbrev pub LineOf : ℕ → ℕ → Type 0
LineOf n r = (1 ≤ r) × (r ≤ n)

-- The two final matrices of the plain run are in the cells, each entry at its row and column, and no tile is marked.
pub record Agrees (n sweeps : ℕ) (l : List Float) (x : Array) : Type 0 where
  pub matrix_agrees : (r c : ℕ) → LineOf n r → LineOf n c → matrix_in n x.tiles r c ≡ (after n (steps_of n sweeps) (start_of n l)).matrix r c
  pub vectors_agree : (r c : ℕ) → LineOf n r → LineOf n c → vectors_in n x.tiles r c ≡ (after n (steps_of n sweeps) (start_of n l)).vectors r c
  pub none_marked : some_marked (processors_of n) x.tiles ≡ false

-- Once all ticks are made.
pub record Ended (n sweeps : ℕ) (l : List Float) (x : Array) : Type 0 where
  pub stays : x ≡ ticked (ticks_of n sweeps) (start_array n sweeps l)
  pub finite_agrees : spoiled n (steps_of n sweeps) (start_of n l) ≡ false → Agrees n sweeps l x
  pub spoiled_marked : spoiled n (steps_of n sweeps) (start_of n l) ≡ true → some_marked (processors_of n) x.tiles ≡ true

pub record AcceptedByHand (n sweeps : ℕ) (l : List Float) (s : Started) (rs : List Ticked) : Type 0 where
  pub made_then_stopped : answers_of rs ≡ counted (first_made (ticks_of n sweeps)) (length rs)
  pub ends : ticks_of n sweeps ≤ length rs → Ended n sweeps l (last_array s rs)

abbrev pub ClaimedByHand : Answered Unit → ℕ → ℕ → List Float → Started → List Ticked → Type 0
ClaimedByHand (given x) n sweeps l s rs = AcceptedByHand n sweeps l s rs
ClaimedByHand (refused k values) n sweeps l s rs = RefusedByHand s rs
