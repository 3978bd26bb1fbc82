-- The array is what m sweeps of the run leave, none of them quiet, and no S was lowered so far.
use Prim.Native.Nat.{◌≤◌}
use Rattle.array_run.proofs.Advances.{Swept}
use Rattle.array_run.proofs.whole.WholeRun.to_the_end.Given as goal

abbrev pub invariant-loop-m : goal.invariant-loop-m
invariant-loop-m l = (l.m ≤ l.sweeps) × Swept l.fn.self.array l.m l.self.array
