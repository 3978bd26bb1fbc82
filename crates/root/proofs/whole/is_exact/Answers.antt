use Rattle.std.proofs.Common.{◌/◌, ◌^◌, arith}
use Rattle.root.proofs.Squares.{product_le}
use Rattle.root.proofs.ExactDigits.{leading_half}
use Rattle.root.proofs.whole.is_exact.Goals as goal

pub overflow_mul-result : goal.overflow_mul-result
overflow_mul-result c = let a = c.args.q / 2 ^ 26 in let b = product_le a a (omega arith) (omega arith) in omega arith

pub returns : goal.returns
returns c = leading_half _ _ c.requires.0 c.requires.1 c.requires.3
