use native.Mathlib.Omega.{arith}
use Rattle.sizes.proofs.Orders.{steps_few, order_half}
use Rattle.sizes.proofs.ticks_of.Goals as goal

pub overflow_mul-result : goal.overflow_mul-result
overflow_mul-result c = let p = c.requires in let s = steps_few _ _ p.0 p.1 in let e = c.steps_of.ensures in record { fits = omega arith }

pub overflow_add-result : goal.overflow_add-result
overflow_add-result c =
    let p = c.requires in
    let s = steps_few _ _ p.0 p.1 in
    let h = order_half _ p.0 in
    let e = c.steps_of.ensures in
    omega arith
