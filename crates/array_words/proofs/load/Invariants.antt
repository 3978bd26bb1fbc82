-- The tiles before i are those in the words.
use Prim.Native.Nat.{◌+◌, ◌*◌, ◌≤◌}
use Rattle.lists.proofs.Filled.{Filled}
use Rattle.sizes.specs.Sizes.{most_processors}
use Rattle.array.specs.Arrays.{no_tile}
use Rattle.array_words.specs.Words.{tile_words, tile_in}
use Rattle.array_words.proofs.load.Given as goal

abbrev pub invariant-loop-i : goal.invariant-loop-i
invariant-loop-i l =
    (l.i ≤ most_processors * most_processors)
    × Filled no_tile (λ i. tile_in l.words (3 + i * tile_words)) (most_processors * most_processors) l.i l.tile-items
