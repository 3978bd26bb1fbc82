-- Document 01, "The array": what a tick answers. Definitions only.
use Rattle.std.specs.Prelude.{ℕ, ◌-◌, cond, Result, ltb}
use Rattle.refusal.specs.Answers.{Answered, given, refused, answered_as, giving}
use Rattle.refusal.specs.declared.Refusal.{Refusal}
use Rattle.sizes.specs.Sizes.{ticks_of, sizes_answer}
use Rattle.tile_schedule.specs.declared.Progress.{Progress}
use Rattle.tile_schedule.specs.declared.Progress.TheVariants.{Made, Stopped}

-- What a tick answers: made, or stopped after the last, or a refusal.
pub data Tick : Type 0 where
  made stopped : Tick

abbrev pub tick_of : Progress → Tick
tick_of Made = made
tick_of Stopped = stopped

abbrev pub progress_answered : Result Progress Refusal → Answered Tick
progress_answered = answered_as tick_of

-- 1 and 2 are refused; before the last tick is made, a tick is made, and after it stopped.
unfoldable pub progress_of : ℕ → ℕ → ℕ → Answered Tick
progress_of n sweeps t = giving (cond (ltb t (ticks_of n sweeps)) made stopped) (sizes_answer n sweeps)

-- How many ticks are still made, by the answer of the next one; k are left of a run.
abbrev pub made_of : Answered Tick → ℕ → ℕ
made_of (given made) k = k
made_of (given stopped) k = 0
made_of (refused number values) k = 0

unfoldable pub left_of : ℕ → ℕ → ℕ → ℕ
left_of n sweeps t = made_of (progress_of n sweeps t) (ticks_of n sweeps - t)
