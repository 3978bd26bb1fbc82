-- What a refused start and a tick that is not made give back. Assumes nothing.
use Prim.Native.Nat.{ℕ}
use mathlib.Core.Path.{◌≡◌, refl, sym, ap, ◌∙◌}
use mathlib.Core.List.{List}
use lib.Ieee.{Float}
use Rattle.refusal.specs.Answers.{Answered, given, refused, answered}
use Rattle.tile_schedule.specs.Answers.{Tick, made, stopped, progress_answered, progress_of}
use Rattle.array.specs.declared.Array.{Array}
use Rattle.array.specs.declared.Started.{Started}
use Rattle.array.specs.declared.Ticked.{Ticked}
use Rattle.array.specs.Arrays.{array_of, Ticks}
use Rattle.array.specs.Runs.{no_array, started_of, Starts}

pub start_none : (n sweeps : ℕ) (l : List Float) (s : Started) → Starts n sweeps l s → (k : ℕ) (values : List ℕ) → answered s.answer ≡ refused k values
    → s.array ≡ no_array
start_none n sweeps l s h k values e = h.hands_back ∙ ap (λ (t : Answered Unit). started_of t n sweeps l) (sym h.answers ∙ e)

not_made : (t : Answered Tick) (x : Array) → ¬ (t ≡ given made) → array_of t x ≡ x
not_made (given made) x h = absurd (h refl)
not_made (given stopped) x h = refl
not_made (refused k values) x h = refl

pub tick_back : (x : Array) (r : Ticked) → Ticks x r → ¬ (progress_answered r.answer ≡ given made) → r.array ≡ x
tick_back x r h d = h.hands_back ∙ not_made (progress_of x.n x.sweeps x.tick) x (λ e. d (h.answers ∙ e))
