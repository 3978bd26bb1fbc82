use Prim.Native.Nat.{ℕ}
use mathlib.Core.Path.{ap, ◌∙◌}
use native.Mathlib.Omega.{arith}
use Rattle.std.proofs.Common.{rules}
use Rattle.std.proofs.lemmas.Iterator.{YieldsList-from_range, YieldsList-from_map, serves_from_Range}
use Rattle.std.proofs.lemmas.Iterator.Consumers.{sum_from_yields_List}
use Rattle.std.proofs.lemmas.Iterator.Adapters.{fits_from_length, at_most_from_yields_List}
use Rattle.std.proofs.lemmas.List.FromFn.{length-range_with_len}
use Rattle.sizes.specs.Sizes.{most_processors}
use Rattle.sizes.proofs.Orders.{order_half}
use Rattle.array.specs.Arrays.{no_quad, no_part, no_tile, tile_at}
use Rattle.array_run.specs.Results.{rounded_pairs}
use Rattle.array_run.proofs.Ranges.{sum_below}
use Rattle.array_run.proofs.whole.WholeRun.rounded_pairs.Goals as goal

pub sum-requires-clause-can : goal.sum-requires-clause-can
sum-requires-clause-can c =
    let few = (order_half _ c.args.self.now.has_order).1 in
    (tt, serves_from_Range (λ x q h. search rules) (λ k h o. search rules))

pub sum-requires-clause-fits : goal.sum-requires-clause-fits
sum-requires-clause-fits c =
    let few = (order_half _ c.args.self.now.has_order).1 in
    let n = c.processors_of.result in
    fits_from_length _ _ most_processors _
    (at_most_from_yields_List (YieldsList-from_range 0 n n c.map.ensures.source (omega arith)) (omega (arith, length-range_with_len 0 n)))
    c.map.ensures.closure (omega arith) (λ x r q k. search rules)

pub returns : goal.returns
unfolding rounded_pairs tile_at no_tile no_part no_quad
returns c =
    let f = λ (i : ℕ). (tile_at c.args.self.now.array.tiles i i).counts.rounded in
    let n = c.processors_of.result in
    sum_from_yields_List c.map.result _ c.sum.ensures.ran
    (YieldsList-from_map _ f (YieldsList-from_range 0 n n c.map.ensures.source (omega arith)) c.map.ensures.closure (λ x r q k. search rules))
    ∙ sum_below f n
    ∙ ap (λ (m : ℕ). rounded_pairs m c.args.self.now.array.tiles) c.processors_of.ensures
