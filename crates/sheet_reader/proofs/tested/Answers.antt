use Prim.Native.Nat.{◌≤◌}
use native.Mathlib.Nat.{mul-le-mul}
use native.Mathlib.Omega.{arith}
use Rattle.sheet.proofs.Forms.{order_within}
use Rattle.sheet_reader.proofs.tested.Goals as goal

-- the order is at most that of a byte
pub overflow_mul-n : goal.overflow_mul-n
overflow_mul-n c =
    let few : c.order_in-n.result ≤ 255 = omega (arith, c.order_in-n.ensures, order_within c.args.sheet.now, c.type_inv.sheet 0) in
    omega (arith, mul-le-mul few few)
