use native.Mathlib.Omega.{arith}
use Rattle.array.specs.Arrays.{no_quad, no_part, no_tile}
use Rattle.array_words.proofs.WordsWritten.{head_stored, tile_stored}
use Rattle.array_words.proofs.store.Goals as goal

pub loop-i-init : goal.loop-i-init
loop-i-init c = (omega arith, head_stored _ c.args.words.now c.if-words-ne-ARRAY.false)

pub loop-i-preserved : goal.loop-i-preserved
unfolding no_tile no_part no_quad
loop-i-preserved c =
    let at-loop = c.loop-i in
    (omega arith, tile_stored _ _ _ at-loop.invariant.1 (omega arith) c.store_tile.ensures)
