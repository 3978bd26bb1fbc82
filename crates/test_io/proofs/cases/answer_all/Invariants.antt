-- The case before answered, and more may be answered.
use Rattle.std.proofs.Common.{Ok, ◌<◌}
use Rattle.test_io.proofs.cases.answer_all.Given as goal

abbrev pub invariant-loop : goal.invariant-loop
invariant-loop g l =
    goal.F-IsAlwaysCallable g l.answer
    × (0 < l.counter → (before : _) × goal.F-step g before (Ok tt) l.answer)
