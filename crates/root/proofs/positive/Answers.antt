use Rattle.std.proofs.Common.{ap, sym, ◌∙◌, arith}
use Rattle.float64.proofs.Patterns.{field_units, subnormal_units}
use Rattle.root.specs.Exact.{root_of_units}
use Rattle.root.proofs.positive.Goals as goal

pub returns-then-field-eq0 : goal.returns-then-field-eq0
returns-then-field-eq0 c = c.subnormal.ensures ∙ ap root_of_units (sym (subnormal_units _ (omega arith)))

pub returns-else-field-eq0 : goal.returns-else-field-eq0
returns-else-field-eq0 c = c.scaled.ensures _ (field_units c.args.b (omega arith) c.requires.1)
