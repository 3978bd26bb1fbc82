use Rattle.std.proofs.Common.{arith}
use Rattle.std.proofs.lemmas.Float.{not_nan_f64_bits}
use Rattle.root.proofs.guess.Goals as goal

pub float_from_bits-x : goal.float_from_bits-x
float_from_bits-x c = not_nan_f64_bits _ (omega arith)

pub float_from_bits-y : goal.float_from_bits-y
float_from_bits-y c = not_nan_f64_bits _ (omega arith)
