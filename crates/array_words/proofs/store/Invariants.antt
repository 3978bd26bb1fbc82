-- The words of the order, the sweeps, the tick and the tiles before i are written.
use Prim.Native.Nat.{◌+◌, ◌*◌, ◌≤◌}
use Rattle.lists.proofs.Filled.{Filled}
use Rattle.sizes.specs.Sizes.{most_processors}
use Rattle.array_words.specs.Words.{tile_words, array_words, array_word}
use Rattle.array_words.proofs.store.Given as goal

abbrev pub invariant-loop-i : goal.invariant-loop-i
invariant-loop-i l = (l.i ≤ most_processors * most_processors) × Filled 0 (array_word l.array) array_words (3 + l.i * tile_words) l.words
