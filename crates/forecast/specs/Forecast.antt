-- Document 02 (iii): what a run of order n takes, from n and the sweeps alone. Definitions only.
use Rattle.std.specs.Prelude.{ℕ, ◌-◌, ◌*◌, Result}
use Rattle.refusal.specs.Answers.{Answered, answered_as, giving}
use Rattle.refusal.specs.declared.Refusal.{Refusal}
use Rattle.sizes.specs.Sizes.{processors_of, steps_of, ticks_of, sizes_answer}
use Rattle.forecast.specs.declared.Figures.{Figures}

abbrev pub forecast_answered : Result Figures Refusal → Answered Figures
forecast_answered = answered_as (λ figures. figures)

-- 3 K + N ticks, 8 N N K values set on cell wires, 2 N (N - 1) K parameters received.
unfoldable pub figures_of : ℕ → ℕ → Figures
figures_of n sweeps =
    record {
      ticks = ticks_of n sweeps;
      values = 8 * processors_of n * processors_of n * steps_of n sweeps;
      parameters = 2 * processors_of n * (processors_of n - 1) * steps_of n sweeps;
    }

-- The figures, or 1 or 2.
unfoldable pub forecast_of : ℕ → ℕ → Answered Figures
forecast_of n sweeps = giving (figures_of n sweeps) (sizes_answer n sweeps)
