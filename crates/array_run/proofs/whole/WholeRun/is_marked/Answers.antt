use Prim.Native.Nat.{ℕ}
use mathlib.Core.Path.{ap, ◌∙◌}
use Rattle.std.proofs.Common.{rules}
use Rattle.std.proofs.lemmas.Iterator.{serves_from_Range}
use Rattle.sizes.proofs.Orders.{order_half}
use Rattle.array_run.specs.Results.{marked_in_row, some_marked}
use Rattle.array_run.proofs.Ranges.{any_of_range}
use Rattle.array_run.proofs.whole.WholeRun.is_marked.Goals as goal

pub any-requires-clause-callable : goal.any-requires-clause-callable
any-requires-clause-callable c =
    let few = (order_half _ c.args.self.now.has_order).1 in
    serves_from_Range (λ x q h. search rules) (λ k h o. search rules)

pub returns : goal.returns
unfolding some_marked
returns c =
    let l = c.args.self.now.array.tiles in
    let n = c.processors_of-processors in
    any_of_range (marked_in_row n.result l) n.result (cc) c.any.ensures.ran (λ x r q k. search rules) ∙ ap (λ (m : ℕ). some_marked m l) n.ensures
