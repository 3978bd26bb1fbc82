use Prim.Native.Nat.{◌-◌}
use mathlib.Core.Path.{ap, ◌∙◌}
use native.Mathlib.Omega.{arith}
use Rattle.array.specs.declared.Array.{Array}
use Rattle.array.proofs.TicksInARow.{early, tick_at, goes_next, ticked_none, ticked_next}
use Rattle.array.proofs.HalfTicks.{one_tick}
use Rattle.array.proofs.Array.after.Goals as goal

pub overflow_add-tick-end : goal.overflow_add-tick-end
overflow_add-tick-end c = omega (arith, early c.requires)

pub loop-tick-init : goal.loop-tick-init
loop-tick-init c = (omega arith, ticked_none _)

pub turn-requires : goal.turn-requires
turn-requires c = rw c.loop-tick.invariant.1 (goes_next c.requires _ (omega arith))

pub settle-requires : goal.settle-requires
settle-requires c =
    let g = goes_next c.requires (c.loop-tick.tick - c.args.self.tick) (omega arith) in
    rw (c.turn.ensures, c.loop-tick.invariant.1) (record { order = g.order; few = g.few; room = g.room })

pub loop-tick-preserved : goal.loop-tick-preserved
loop-tick-preserved c =
    let k = c.loop-tick.tick - c.args.self.tick in
    let e = c.loop-tick.invariant.1 in
    let g = rw (← e) at (goes_next c.requires k (omega arith)) in
    let at = ap (λ (y : Array). y.tick) e ∙ tick_at c.requires k (omega arith) in
    (omega arith, ticked_next _ c.loop-tick.tick (omega arith) e (one_tick g c.turn.ensures c.settle.ensures (omega arith)))
