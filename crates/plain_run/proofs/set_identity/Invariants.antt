use Prim.Native.Nat.{◌+◌, ◌*◌, ◌/◌, ◌%◌}
use lib.Ieee.{nan}
use Rattle.lists.proofs.Filled.{Filled}
use Rattle.runs.specs.State.{identity}
use Rattle.plain_run.proofs.set_identity.Given as goal

-- The first k values are those of the identity.
abbrev pub invariant-loop-k : goal.invariant-loop-k
invariant-loop-k l = Filled nan (λ i. identity (i / l.n + 1) (i % l.n + 1)) (l.n * l.n) l.k l.a
