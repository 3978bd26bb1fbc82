use mathlib.Core.Path.{◌∙◌}
use native.Mathlib.Omega.{arith}
use Rattle.lists.proofs.Filled.{filled_next}
use Rattle.sizes.proofs.Orders.{order_is}
use Rattle.matrix.proofs.Flat.{row_lt, column_lt}
use Rattle.array.specs.Arrays.{no_quad, no_part, no_tile, tile_at}
use Rattle.array_run.proofs.Results.{joined_at, flat_filled}
use Rattle.array_run.proofs.whole.WholeRun.write_cells.Goals as goal

pub bounds-self-i : goal.bounds-self-i
bounds-self-i c =
    let n = c.args.self.now.array.n in
    let k = c.loop-k.k in
    omega (arith, order_is n c.args.self.now.has_order, row_lt n k (omega arith), column_lt n k (omega arith))

pub loop-k-preserved : goal.loop-k-preserved
unfolding tile_at no_tile no_part no_quad
loop-k-preserved c =
    let u = c.loop-k.invariant in
    let e = c.first_line-first.ensures in
    let t = c.args.self.now.array.tiles in (
      omega arith,
      filled_next _ _ _ u.1 (omega arith) (c.corner.ensures ∙ joined_at (λ i j. (tile_at t i j).cells.matrix) _ _ e),
      filled_next _ _ _ u.2 (omega arith) (c.corner-in-loop-k.ensures ∙ joined_at (λ i j. (tile_at t i j).cells.vectors) _ _ e),
    )

pub returns : goal.returns
returns c =
    let u = c.loop-k.invariant in
    (flat_filled _ _ _ _ u.1 (omega arith), flat_filled _ _ _ _ u.2 (omega arith))
