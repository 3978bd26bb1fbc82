use Prim.Native.Nat.{◌+◌}
use mathlib.Core.Path.{◌≡◌}
use Rattle.std.specs.Prelude.{Ok}
use Rattle.refusal.specs.Answers.{given, first}
use Rattle.sheet_reader.specs.Reader.{not_finite_in}
use Rattle.sheet_reader.proofs.Form.first_not_finite.Given as goal

-- In the inner loop the first j entries of row i + 1 are finite, in the outer loop those of the first i rows are. In both nothing is found so far.
abbrev pub invariant-loop-j : goal.invariant-loop-j
invariant-loop-j l = (l.found ≡ Ok tt) × (first l.j (not_finite_in l.self.sheet.now (l.i + 1)) ≡ given tt)

abbrev pub invariant-rows : goal.invariant-rows
invariant-rows l = (l.found ≡ Ok tt) × (first l.i (λ r. first r (not_finite_in l.self.sheet.now r)) ≡ given tt)
