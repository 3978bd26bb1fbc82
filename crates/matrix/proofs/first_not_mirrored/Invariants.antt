use Prim.Native.Nat.{◌+◌}
use mathlib.Core.Path.{◌≡◌}
use Rattle.std.specs.Prelude.{Ok}
use Rattle.refusal.specs.Answers.{given, first}
use Rattle.matrix.specs.Entries.{not_mirrored_at}
use Rattle.matrix.proofs.first_not_mirrored.Given as goal

-- In the inner loop the entries of row i + 1 right of the diagonal in the first j columns have their bits again in the mirror, in the outer
-- loop those of the first i rows. In both nothing is found so far.
abbrev pub invariant-loop-j : goal.invariant-loop-j
invariant-loop-j l = (l.found ≡ Ok tt) × (first l.j (not_mirrored_at l.n l.a (l.i + 1)) ≡ given tt)

abbrev pub invariant-rows : goal.invariant-rows
invariant-rows l = (l.found ≡ Ok tt) × (first l.i (λ r. first l.n (not_mirrored_at l.n l.a r)) ≡ given tt)
