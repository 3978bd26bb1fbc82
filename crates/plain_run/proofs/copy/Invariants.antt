use lib.Ieee.{nan}
use lib.ListN.{length, get_or}
use Rattle.lists.proofs.Filled.{Filled}
use Rattle.plain_run.proofs.copy.Given as goal

-- The first k values are copied.
abbrev pub invariant-loop-k : goal.invariant-loop-k
invariant-loop-k l = Filled nan (λ i. get_or l.from i nan) (length l.from) l.k l.to
