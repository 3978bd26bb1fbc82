use mathlib.Core.Path.{sym, ◌∙◌}
use native.Mathlib.Omega.{arith}
use Rattle.sizes.proofs.Orders.{order_is}
use Rattle.sheet_reader.proofs.AcceptedSheets.{readable_alone}
use Rattle.sheet_join.proofs.JointContents.{joint_width_is}
use Rattle.sheet_join.proofs.pair_of.Goals as goal

pub overflow_add-pair : goal.overflow_add-pair
overflow_add-pair c =
    let first = order_is _ (readable_alone _ (sym c.in_ok-tested.ensures)).order in
    let second = order_is _ (readable_alone _ (sym c.in_ok-tested-2.ensures)).order in
    omega (arith, c.order_in.ensures, c.order_in-2.ensures, first.1, second.1)

pub invariant_of-pair : goal.invariant_of-pair
invariant_of-pair c =
    let first = sym c.in_ok-tested.ensures in
    let second = sym c.in_ok-tested-2.ensures in
    let wider = joint_width_is _ _ first second (λ i. (c.type_inv.first i).fits) (λ i. (c.type_inv.second i).fits) in
    record {
      accepted = (first, second);
      order = omega (arith, c.order_in.ensures, c.order_in-2.ensures);
      form = c.max.ensures ∙ rw (c.width_in.ensures, c.width_in-2.ensures) wider;
    }
