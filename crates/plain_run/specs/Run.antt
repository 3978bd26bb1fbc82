-- Document 01: what a plain run answers and leaves, its refusals too. Definitions only.
use Rattle.std.specs.Prelude.{ℕ, Bool, not, cond, ◌||◌, List, length, get_or, Float}
use Rattle.std.specs.Float.{nan}
use Rattle.refusal.specs.Answers.{given, refused_by, unless_refused}
use Rattle.refusal.specs.declared.Refusal.TheVariants.{Spoiled}
use Rattle.float64.specs.Values.{finite}
use Rattle.lists.specs.Bounded.{any}
use Rattle.sizes.specs.Sizes.{steps_of}
use Rattle.matrix.specs.Matrix.{flat}
use Rattle.runs.specs.State.{start_of, zeros}
use Rattle.runs.specs.Outcome.{before_run, Outcome, outcome, results_kept}
use Rattle.plain_run.specs.State.{after, spoiled}

-- The outcome of a run that is not refused before it.
unfoldable pub ran_of : ℕ → ℕ → List Float → Outcome Unit
ran_of n sweeps l =
    cond (spoiled n (steps_of n sweeps) (start_of n l)) (outcome (refused_by Spoiled) (zeros n) (zeros n))
    (outcome (given tt) (flat n (after n (steps_of n sweeps) (start_of n l)).matrix) (flat n (after n (steps_of n sweeps) (start_of n l)).vectors))

-- The end of a run, by the lists that hold its two matrices: 8 if a value in them isn't finite.
unfoldable pub some_not_finite : List Float → Bool
some_not_finite l = any (length l) (λ k. not (finite (get_or l k nan)))

unfoldable pub finish_of : ℕ → List Float → List Float → Outcome Unit
finish_of n l e = cond (some_not_finite l || some_not_finite e) (outcome (refused_by Spoiled) (zeros n) (zeros n)) (outcome (given tt) l e)

-- The outcome of a run: l is the matrix, r and v are what the two results hold before.
unfoldable pub run_of : ℕ → ℕ → List Float → List Float → List Float → Outcome Unit
run_of n sweeps l r v = unless_refused (before_run n sweeps l (length r) (length v)) (ran_of n sweeps l) (results_kept r v)
