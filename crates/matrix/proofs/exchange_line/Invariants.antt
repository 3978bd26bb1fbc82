use Prim.Native.Nat.{ℕ}
use mathlib.Core.Path.{◌≡◌}
use lib.Ieee.{Float}
use Rattle.matrix.specs.Matrix.{flat}
use Rattle.matrix.specs.Transposed.{across, up_to}
use Rattle.matrix.proofs.exchange_line.Given as goal

-- Where the lines before line i were exchanged at the start, the first j places of row i and column i are so too.
abbrev pub invariant-loop-j : goal.invariant-loop-j
invariant-loop-j l = (A : ℕ → ℕ → Float) → l.initial.a ≡ flat l.n (across (up_to l.i 0) A) → l.a ≡ flat l.n (across (up_to l.i l.j) A)
