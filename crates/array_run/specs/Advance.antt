-- Document 02 (vi): a tick of a whole run, after which the record's S is lowered once a sweep is quiet. Definitions only.
use Rattle.std.specs.Prelude.{ℕ, zero, suc, ◌+◌, ◌/◌, Bool, not, cond, ◌&&◌, List, eqb}
use Rattle.refusal.specs.Answers.{Answered, given, refused}
use Rattle.lists.specs.Bounded.{any}
use Rattle.systolic.specs.Tiles.{action_at, step_at}
use Rattle.systolic.specs.Traffic.{rotates}
use Rattle.sizes.specs.Sizes.{processors_of, sweep_steps, steps_of}
use Rattle.runs.specs.Counts.{begins_sweep}
use Rattle.tile_schedule.specs.Answers.{Tick, made, stopped, progress_of}
use Rattle.tile.specs.declared.Tile.{Tile}
use Rattle.array.specs.declared.Array.{Array}
use Rattle.array.specs.Arrays.{tile_at, array_of}

-- Tick t has the last rotations on the diagonal in a sweep.
unfoldable pub ends_sweep : ℕ → ℕ → ℕ → Bool
ends_sweep n sweeps t = rotates (action_at (steps_of n sweeps) 0 t) && begins_sweep n (step_at 0 t + 1)

-- The number of that sweep, from 1.
unfoldable pub sweep_ended : ℕ → ℕ → ℕ
sweep_ended n t = (step_at 0 t + 1) / sweep_steps n

-- No tile on the diagonal counts a turn in the current sweep.
unfoldable pub none_counted : ℕ → List Tile → Bool
none_counted N l = not (any N (λ i. not (eqb (tile_at l i i).counts.turns 0)))

-- The record for another number of sweeps.
abbrev pub with_sweeps : ℕ → Array → Array
with_sweeps sweeps x = record { n = x.n; sweeps = sweeps; tick = x.tick; tiles = x.tiles }

-- The record right after tick t: its S is lowered to the sweep that the tick ends, if that sweep is quiet.
unfoldable pub lowered : ℕ → Array → Array
lowered t x =
    cond (ends_sweep x.n x.sweeps t && none_counted (processors_of x.n) x.tiles) (with_sweeps (sweep_ended x.n t) x) x

-- One tick of a whole run: a tick, and S lowered or not. Where the tick is stopped or refused, the record stays.
abbrev pub advanced_as : Answered Tick → Array → Array
advanced_as (given made) x = lowered x.tick (array_of (given made) x)
advanced_as (given stopped) x = x
advanced_as (refused k values) x = x

unfoldable pub advanced : Array → Array
advanced x = advanced_as (progress_of x.n x.sweeps x.tick) x

unfoldable pub advanced_by : ℕ → Array → Array
advanced_by zero x = x
advanced_by (suc k) x = advanced (advanced_by k x)
