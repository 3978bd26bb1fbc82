use native.Mathlib.Omega.{arith}
use Rattle.lists.proofs.Filled.{filled_next, filled_all}
use Rattle.array_words.proofs.ArrayRead.{loaded}
use Rattle.array_words.proofs.load.Goals as goal

pub loop-i-preserved : goal.loop-i-preserved
loop-i-preserved c = let k = c.loop-i in (omega arith, filled_next _ _ _ k.invariant.1 (omega arith) c.tile_in.ensures)

pub returns : goal.returns
returns c =
    let tiles = filled_all _ _ c.loop-i.invariant.1 (omega arith) in
    loaded _ c.word_at.ensures c.word_at-2.ensures c.word_at-3.ensures tiles
