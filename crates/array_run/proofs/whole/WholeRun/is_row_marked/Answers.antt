use Prim.Native.Nat.{ℕ}
use Rattle.std.proofs.Common.{rules}
use Rattle.array.specs.Arrays.{no_quad, no_part, no_tile, tile_at}
use Rattle.array_run.proofs.Ranges.{any_of_range}
use Rattle.array_run.proofs.whole.WholeRun.is_row_marked.Goals as goal

pub returns : goal.returns
unfolding tile_at no_tile no_part no_quad
returns c =
    any_of_range (λ (j : ℕ). (tile_at c.args.self.now.array.tiles c.args.i j).mark) c.args.processors (cc) c.any.ensures.ran (λ x r q k. search rules)
