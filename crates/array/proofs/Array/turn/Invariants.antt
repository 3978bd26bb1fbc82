-- The tiles of the rows before i have turned, and in the inner loop those of row i before column j. No more than the tiles has changed.
use Prim.Native.Nat.{◌≤◌}
use Rattle.array.proofs.HalfTicks.{SameTick, Turned}
use Rattle.array.proofs.Array.turn.Given as goal

abbrev pub invariant-loop-j : goal.invariant-loop-j
invariant-loop-j l = (l.j ≤ l.processors) × SameTick l.fn.self l.self × Turned l.fn.self l.i l.j l.self.tiles

abbrev pub invariant-loop-i : goal.invariant-loop-i
invariant-loop-i l = (l.i ≤ l.processors) × SameTick l.fn.self l.self × Turned l.fn.self l.i 0 l.self.tiles
