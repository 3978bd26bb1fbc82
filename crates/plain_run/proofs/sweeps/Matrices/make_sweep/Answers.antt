use mathlib.Core.Path.{refl, ap, ◌∙◌}
use native.Mathlib.Omega.{arith}
use Rattle.lists.proofs.Bounded.{count_most}
use Rattle.ordering.specs.Pairs.{after_step}
use Rattle.sizes.proofs.Orders.{order_half, few_steps}
use Rattle.ordering.proofs.OrderRegisters.{of_order, next_at}
use Rattle.plain_pair.proofs.AlikeStates.{held_long}
use Rattle.plain_run.proofs.HeldMatrices.{held_first, held_next}
use Rattle.plain_run.proofs.HeldStates.{no_steps, step_next}
use Rattle.plain_run.proofs.ProcessorPairs.{registers_paired}
use Rattle.plain_run.proofs.StepParameters.{step_angles, step_exact}
use Rattle.plain_run.proofs.CountedSteps.{none_counted_lem, pairs_few, turns_next, rounded_next}
use Rattle.plain_run.proofs.sweeps.Matrices.make_sweep.Goals as goal

pub loop-init : goal.loop-init
loop-init c =
    let m = c.args.self.now in
    (of_order _ m.order c.of_order-registers.ensures, held_first m _ (no_steps _ _ _ _), none_counted_lem _ _, none_counted_lem _ _)

pub overflow_add-rounded : goal.overflow_add-rounded
overflow_add-rounded c =
    let at-loop = c.loop in
    let order = c.args.self.now.order in
    let i = at-loop.invariant in
    let so_far = pairs_few _ _ order at-loop.counter i.3 in
    omega (arith, count_most _ _ c.angles_of-step.ensures.1, so_far, order_half _ order, order_half _ at-loop.self.order, few_steps _ order)

pub make_pairs-turns-requires : goal.make_pairs-turns-requires
make_pairs-turns-requires c =
    let at-loop = c.loop in
    let m = at-loop.self in
    let stand = rw (← at-loop.invariant.1.same.order) at at-loop.invariant.0 in
    let tangents = c.tangents in
    let angles = c.angles_of-step in
    record {
      paired = rw stand (registers_paired _ m.order _);
      by_index = step_angles _ m.order at-loop.counter at-loop.registers stand tangents.result _ _ m.matrix_long tangents.ensures
          angles.result.angles angles.ensures.0;
    }

pub overflow_add-turns : goal.overflow_add-turns
overflow_add-turns c =
    let at-loop = c.loop in
    let order = c.args.self.now.order in
    let i = at-loop.invariant in
    let so_far = pairs_few _ _ order at-loop.counter i.2 in
    omega (arith, count_most _ _ c.make_pairs-turns.ensures.turns, so_far, order_half _ order, order_half _ at-loop.self.order, few_steps _ order)

pub loop-preserved : goal.loop-preserved
loop-preserved c =
    let at-loop = c.loop in
    let order = c.args.self.now.order in
    let i = at-loop.invariant in
    let same = i.1.same.order in
    let made = c.make_pairs-turns.ensures.held in
    let tangents = rw same at c.tangents.ensures in
    let angles = rw same at c.angles_of-step.ensures in
    let h = held_long _ _ _ _ i.1.held in
    let at_turn = step_angles _ order at-loop.counter at-loop.registers i.0 c.tangents.result _ _ h.0 tangents c.angles_of-step.result.angles angles.0 in
    let exact = step_exact _ order at-loop.counter at-loop.registers i.0 c.tangents.result _ _ h.0 tangents in (
      of_order _ order (rw (made.same.order, same) at c.after_step-registers.ensures) ∙ ap (after_step _) i.0 ∙ next_at _ _ order,
      held_next i.1 made (step_next _ _ _ _ _ _ i.1.held at-loop.registers _ _ i.0 (rw i.0 (registers_paired _ order _)) refl (rw same at made.held)),
      turns_next _ order at-loop.registers at-loop.counter _ c.angles_of-step.result.angles c.tangents.result _ _ i.0 i.1.held at_turn exact i.2
          (rw same at c.make_pairs-turns.ensures.turns),
      rounded_next _ order at-loop.registers at-loop.counter _ c.angles_of-step.result.angles c.tangents.result _ _ i.0 i.1.held at_turn exact i.3 angles.1,
    )
