-- Document 02 (vi) and (vii): quiet sweeps, the sweeps that a run makes, and what it reports. Sweeps count from 1, steps and processors from 0. Definitions
-- only.
use Rattle.std.specs.Prelude.{ℕ, zero, suc, ◌+◌, ◌-◌, ◌*◌, Bool, not, cond, List, Result, Float}
use Rattle.refusal.specs.declared.Refusal.{Refusal}
use Rattle.refusal.specs.Answers.{Answered, answered_as}
use Rattle.lists.specs.Bounded.{any}
use Rattle.sizes.specs.Sizes.{processors_of, sweep_steps, steps_of}
use Rattle.runs.specs.State.{State, start_of}
use Rattle.runs.specs.Outcome.{Outcome, Report, report, answering}
use Rattle.plain_run.specs.Run.{run_of}
use Rattle.plain_run.specs.Met.{turns_in, rounded_by}
use Rattle.plain_run.specs.declared.Report as code

-- Every pair of sweep m is still.
unfoldable pub quiet : ℕ → ℕ → State → Bool
quiet n m X = not (any (sweep_steps n) (λ s. any (processors_of n) (λ i. turns_in n ((m - 1) * sweep_steps n + s) i X)))

-- The first quiet sweep of 1 to S, or S if none is.
unfoldable pub sweeps_made : ℕ → ℕ → State → ℕ
sweeps_made n zero X = 0
sweeps_made n (suc m) X = cond (any m (λ j. quiet n (suc j) X)) (sweeps_made n m X) (suc m)

-- What a run of S sweeps from X reports: the sweeps made, and how many pairs met in them had a rounded root.
unfoldable pub report_of : ℕ → ℕ → State → Report
report_of n S X = let made = sweeps_made n S X in report made (rounded_by n (steps_of n made) X)

abbrev pub ran_answered : Result code.Report Refusal → Answered Report
ran_answered = answered_as (λ x. report x.sweeps x.rounded)

-- What a run leaves, with its report in the answer.
unfoldable pub answered_run_of : ℕ → ℕ → List Float → List Float → List Float → Outcome Report
answered_run_of n sweeps l r v = answering (report_of n sweeps (start_of n l)) (run_of n sweeps l r v)
