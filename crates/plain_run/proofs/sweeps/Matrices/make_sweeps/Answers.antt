use Prim.Native.Nat.{◌+◌}
use mathlib.Core.Path.{refl}
use native.Mathlib.Nat.{le_antisymm}
use native.Mathlib.Numerals.{add-one}
use native.Mathlib.Omega.{arith}
use Rattle.plain_run.proofs.HeldMatrices.{held_first, held_next}
use Rattle.plain_run.proofs.SweepsMade.{with_all, when_quiet, none_yet, next_turning, made_is, reported}
use Rattle.plain_run.proofs.CountedSteps.{no_sweep, none_rounded, sweeps_few, sweep_next, sweep_rounded, sweep_quiet, sweep_turning}
use Rattle.plain_run.proofs.sweeps.Matrices.make_sweeps.Goals as goal

pub loop-m-init : goal.loop-m-init
loop-m-init c =
    (held_first c.args.self.now _ (no_sweep _ _ _ _), none_yet _ _, none_rounded _ _)

pub overflow_add-rounded : goal.overflow_add-rounded
overflow_add-rounded c =
    let at-loop = c.loop-m in
    let i = at-loop.invariant in
    let order = c.args.self.now.order in
    let counted = sweep_rounded _ order _ at-loop.m _ _ i.0.held i.2 (rw i.0.same.order at c.make_sweep-sweep.ensures.rounded) in
    omega (arith, sweeps_few _ _ order (at-loop.m + 1) (omega arith) counted)

pub returns-then-sweep-eq0 : goal.returns-then-sweep-eq0
returns-then-sweep-eq0 c =
    let at-loop = c.loop-m in
    let i = at-loop.invariant in
    let order = c.args.self.now.order in
    let sweep = c.make_sweep-sweep.ensures in
    let quiet = sweep_quiet _ order _ at-loop.m _ _ i.0.held (rw i.0.same.order at sweep.turns) (omega (arith, c.if-sweep-eq0.true)) in
    record {
      told = reported _ _ _ (made_is _ _ (when_quiet at-loop.m (omega (arith, c.loop-m-test.true)) i.1 quiet (add-one _)))
          (sweep_rounded _ order _ at-loop.m _ _ i.0.held i.2 (rw i.0.same.order at sweep.rounded));
      held = held_next i.0 sweep.held (sweep_next _ order _ at-loop.m _ _ i.0.held _ _ (rw i.0.same.order at sweep.held.held));
    }

pub loop-m-preserved : goal.loop-m-preserved
loop-m-preserved c =
    let at-loop = c.loop-m in
    let i = at-loop.invariant in
    let order = c.args.self.now.order in
    let sweep = c.make_sweep-sweep.ensures in
    let turning = sweep_turning _ order _ at-loop.m _ _ i.0.held (rw i.0.same.order at sweep.turns) c.if-sweep-eq0.false in (
      held_next i.0 sweep.held (sweep_next _ order _ at-loop.m _ _ i.0.held _ _ (rw i.0.same.order at sweep.held.held)),
      rw add-one (next_turning _ _ at-loop.m i.1 turning),
      sweep_rounded _ order _ at-loop.m _ _ i.0.held i.2 (rw i.0.same.order at sweep.rounded),
    )

pub returns : goal.returns
returns c =
    let i = c.loop-m.invariant in
    let last = le_antisymm c.loop-m.auto.m-end c.loop-m-test.false in
    record { told = reported _ _ _ (made_is _ _ (with_all (rw last at i.1) refl)) (rw last at i.2); held = rw last at i.0 }
