use Prim.Native.Nat.{ℕ}
use mathlib.Core.Path.{ap, ◌∙◌}
use mathlib.Core.Bool.{not}
use lib.Dec.{eqb}
use Rattle.std.proofs.Common.{rules}
use Rattle.std.proofs.lemmas.Iterator.{serves_from_Range}
use Rattle.sizes.proofs.Orders.{order_half}
use Rattle.array.specs.Arrays.{tile_at}
use Rattle.array_run.proofs.Ranges.{any_of_range}
use Rattle.array_run.specs.Advance.{none_counted}
use Rattle.array_run.proofs.whole.WholeRun.none_counted.Goals as goal

pub any-requires-clause-callable : goal.any-requires-clause-callable
any-requires-clause-callable c =
    let few = (order_half _ c.args.self.now.has_order).1 in
    serves_from_Range (λ x q h. search rules) (λ k h o. search rules)

pub returns : goal.returns
unfolding none_counted
returns c =
    let l = c.args.self.now.array.tiles in
    let n = c.processors_of-processors in
    ap not (any_of_range (λ (i : ℕ). not (eqb (tile_at l i i).counts.turns 0)) n.result (cc) c.any.ensures.ran (λ x r q k. search rules))
    ∙ ap (λ (m : ℕ). none_counted m l) n.ensures
