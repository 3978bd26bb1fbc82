-- The array is the one after the ticks before `tick`.
use Prim.Native.Nat.{◌-◌, ◌≤◌}
use mathlib.Core.Path.{◌≡◌}
use Rattle.array.specs.Runs.{ticked}
use Rattle.array.proofs.Array.after.Given as goal

abbrev pub invariant-loop-tick : goal.invariant-loop-tick
invariant-loop-tick l = (l.tick ≤ l.tick-end) × (l.array ≡ ticked (l.tick - l.fn.self.tick) l.fn.self)
