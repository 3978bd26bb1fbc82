use mathlib.Core.Path.{ap}
use Prim.Native.Nat.{◌*◌}
use Rattle.sizes.proofs.Orders.{steps_fit}
use Rattle.sizes.proofs.steps_of.Goals as goal

pub overflow_mul-result : goal.overflow_mul-result
overflow_mul-result c = let p = c.requires in record { fits = steps_fit _ _ p.0 p.1 c.sweep_steps.ensures }

pub returns : goal.returns
returns c = ap (λ k. c.args.sweeps * k) c.sweep_steps.ensures
