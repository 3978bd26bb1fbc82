-- Where a tick is made, and the array that is handed back where none is. Assumes nothing.
use mathlib.Core.Path.{◌≡◌}
use native.Mathlib.Omega.{arith}
use Rattle.std.specs.Prelude.{Ok}
use Rattle.refusal.specs.Answers.{given}
use Rattle.tile_schedule.specs.declared.Progress.TheVariants.{Stopped}
use Rattle.tile_schedule.specs.Answers.{made, stopped, progress_of}
use Rattle.tile_schedule.proofs.Answers.{made_means}
use Rattle.array.specs.declared.Array.{Array}
use Rattle.array.specs.Arrays.{Ticks}
use Rattle.array.specs.Runs.{GoesOn}

pub stopped_stays : (x : Array) → given stopped ≡ progress_of x.n x.sweeps x.tick → Ticks x (record { answer = Ok Stopped; array = x })
stopped_stays x e = record { answers = e; hands_back = rw (← e) }

pub one_more : (x : Array) → given made ≡ progress_of x.n x.sweeps x.tick → GoesOn x 1
one_more x e = let w = made_means x.n x.sweeps x.tick e in record { order = w.order; few = w.few; room = omega (arith, w.before_end) }
