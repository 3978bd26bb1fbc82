use borrow.Author.Rules.{rules}
use native.Mathlib.Omega.{arith}
use Rattle.sizes.proofs.Orders.{order_half}
use Rattle.array.specs.Arrays.{no_quad, no_part, no_tile}
use Rattle.array.proofs.HalfTicks.{settled_one, settled_all}
use Rattle.array.proofs.Array.settle.Goals as goal

pub loop-j-preserved : goal.loop-j-preserved
unfolding no_tile no_part no_quad
loop-j-preserved c =
    let h = c.loop-j.invariant in
    let few = (order_half _ c.requires.order).1 in (
      omega arith,
      record { order = h.1.order; sweeps = h.1.sweeps; tick = h.1.tick },
      settled_one c.args.self.now h.1 few c.loop-i.i c.loop-j.j (omega arith) (omega arith) (search rules) h.2 _ (λ s. rw (c.processors_of-processors.ensures, c.steps_of-steps.ensures) at (c.after.ensures s)),
    )

pub returns : goal.returns
returns c =
    let h = c.loop-i.invariant in
    settled_all c.args.self.now h.1 (order_half _ c.requires.order).1 c.loop-i.i (omega arith) (search rules) h.2
