-- Document 01, "The array", and document 02 (vi) and (vii): the whole run. Definitions only.
use Rattle.std.specs.Prelude.{ℕ, List, Result, length, Float}
use Rattle.refusal.specs.Answers.{Answered, given, refused, answered_as, unless_refused}
use Rattle.refusal.specs.declared.Refusal.{Refusal}
use Rattle.runs.specs.Outcome.{before_run, Outcome, report, results_kept}
use Rattle.sizes.specs.Sizes.{ticks_of}
use Rattle.array.specs.declared.Array.{Array}
use Rattle.array.specs.Runs.{start_array}
use Rattle.array_run.specs.declared.WholeReport as code
use Rattle.array_run.specs.Results.{WholeReport, reporting, handed_over}
use Rattle.array_run.specs.Advance.{advanced_by}

-- The code's report as the definitions'.
abbrev pub report_of : code.WholeReport → WholeReport
report_of r = reporting (report r.sweeps r.rounded) r.ticks

abbrev pub completion_answered : Result code.WholeReport Refusal → Answered WholeReport
completion_answered = answered_as report_of

-- The ticks in an answer, 0 in a refusal.
abbrev pub ticks_answered : Answered WholeReport → ℕ
ticks_answered (given r) = r.ticks
ticks_answered (refused k values) = 0

-- The array at the end: a start, and then ticks until it has stopped, which it has after those of all S sweeps.
abbrev pub final_array : ℕ → ℕ → List Float → Array
final_array n sweeps l = advanced_by (ticks_of n sweeps) (start_array n sweeps l)

-- l is the matrix, r and v are what the two results hold before.
unfoldable pub whole_of : ℕ → ℕ → List Float → List Float → List Float → Outcome WholeReport
whole_of n sweeps l r v = unless_refused (before_run n sweeps l (length r) (length v)) (handed_over (final_array n sweeps l)) (results_kept r v)
