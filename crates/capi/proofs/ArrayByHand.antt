-- What a start by hand answers where the lent words are not those of an array. Assumes nothing.
use Prim.Native.Nat.{ℕ}
use mathlib.Core.Path.{◌≡◌}
use mathlib.Core.Bool.{false}
use mathlib.Core.List.{List}
use lib.Dec.{eqb}
use lib.ListN.{length}
use lib.Ieee.{Float}
use Rattle.refusal.specs.Answers.{Answered}
use Rattle.runs.specs.Outcome.{before_run}
use Rattle.array_words.specs.Words.{array_words}
use Rattle.capi.specs.CAnswers.{CAnswer, c_answer_of}
use Rattle.capi.specs.Calls.{of_start}

pub start_refused : (i j n sweeps : ℕ) (l : List Float) (w : List ℕ) {s : CAnswer} {a : Answered Unit} → eqb (length w) array_words ≡ false
    → a ≡ before_run n sweeps l 0 0 → s ≡ c_answer_of a i j → (s, w) ≡ of_start n sweeps l w i j
unfolding of_start
start_refused i j n sweeps l w e h k = rw (e, k, h)
