use mathlib.Core.Path.{◌≡◌}
use Prim.Native.Nat.{◌+◌, ◌*◌}
use Rattle.matrix_turns.specs.Turns.{turn_lines}
use Rattle.matrix_turns.proofs.turn_lines.Given as goal

-- The first r lines are turned.
abbrev pub invariant-loop-r : goal.invariant-loop-r
invariant-loop-r l = l.a ≡ turn_lines (λ s. l.i + s * l.step) (λ s. l.j + s * l.step) l.parameters l.r l.initial.a
