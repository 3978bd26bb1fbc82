use Prim.Native.Nat.{◌*◌, ◌≤◌}
use mathlib.Core.Path.{◌≡◌}
use lib.ListN.{length}
use Rattle.matrix.specs.Matrix.{at, flat}
use Rattle.matrix.specs.Transposed.{across, up_to}
use Rattle.matrix.proofs.transpose.Given as goal

-- The first i rows and columns are exchanged.
abbrev pub invariant-loop-i : goal.invariant-loop-i
invariant-loop-i l = (l.i ≤ l.n) × (length l.initial.a ≡ l.n * l.n) × (l.a ≡ flat l.n (across (up_to l.i 0) (at l.n l.initial.a)))
