use borrow.Author.Rules.{rules}
use mathlib.Core.Path.{sym, ◌∙◌}
use native.Mathlib.Omega.{arith}
use Rattle.sizes.proofs.Orders.{order_half}
use Rattle.array.proofs.HalfTicks.{turned_one, turned_none, turned_all}
use Rattle.array.proofs.Array.turn.Goals as goal
use Rattle.array.proofs.Array.turn.Goals.{then-changes, else-changes}

pub loop-j-preserved : goal.loop-j-preserved
loop-j-preserved c =
    let few = (order_half _ c.requires.order).1 in
    let h = c.loop-j.invariant in
    let i = c.loop-i.i in
    let j = c.loop-j.j in
    elim c.if-changes.branch [
      | then-changes w ↦ rw w.self-is (
        omega arith,
        record { order = h.1.order; sweeps = h.1.sweeps; tick = h.1.tick },
        turned_one c.args.self.now h.1 few i j (omega arith) (omega arith) (search rules) h.2
            (rw c.steps_of-steps.ensures at (sym w.if-changes.true ∙ c.changes.ensures)) (omega (arith, (order_half _ c.requires.order).0)) (rw c.steps_of-steps.ensures at w.turned-tile.ensures),
      )
      | else-changes w ↦ rw w.self-is (
        omega arith,
        h.1,
        turned_none c.args.self.now h.1 few i j (omega arith) (omega arith) h.2
            (rw c.steps_of-steps.ensures at (sym w.if-changes.false ∙ c.changes.ensures)),
      )
    ]

pub returns : goal.returns
returns c =
    let h = c.loop-i.invariant in
    turned_all c.args.self.now h.1 (order_half _ c.requires.order).1 c.loop-i.i (omega arith) (search rules) h.2
