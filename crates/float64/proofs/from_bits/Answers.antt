use Rattle.std.proofs.Common.{◌∙◌}
use Rattle.std.proofs.lemmas.Float.{not_nan_f64_bits}
use Rattle.float64.proofs.Nan.{nan_pattern}
use Rattle.float64.proofs.from_bits.Goals as goal

pub returns-then-b-gt9218868437227405312 : goal.returns-then-b-gt9218868437227405312
returns-then-b-gt9218868437227405312 c = c.not_a_number.ensures ∙ nan_pattern _ c.if-b-gt9218868437227405312.true

pub float_from_bits-result : goal.float_from_bits-result
float_from_bits-result c = not_nan_f64_bits _ c.if-b-gt9218868437227405312.false
