-- The array that is read. Assumes nothing.
use Prim.Native.Nat.{ℕ, ◌+◌, ◌*◌, ◌≤◌}
use mathlib.Core.Path.{◌≡◌}
use mathlib.Core.List.{List}
use borrow.Author.Tests.{le-ltb}
use lib.ListN.{get_or}
use Rattle.lists.specs.Tabulate.{tabulate}
use Rattle.sizes.specs.Sizes.{most_processors, most_counted}
use Rattle.tile.specs.declared.Tile.{Tile}
use Rattle.array.specs.declared.Array.{Array}
use Rattle.array_words.specs.Words.{tile_words, count_at, tile_in, array_in}

pub count_within : (l : List ℕ) (k : ℕ) {w : ℕ} → w ≡ get_or l k 0 → w ≤ most_counted → w ≡ count_at l k
unfolding count_at
count_within l k {w} e h = rw (← e, le-ltb most_counted w h)

pub loaded : (l : List ℕ) {n sweeps tick : ℕ} {tiles : List Tile} → n ≡ get_or l 0 0 → sweeps ≡ get_or l 1 0 → tick ≡ get_or l 2 0
    → tiles ≡ tabulate (most_processors * most_processors) (λ i. tile_in l (3 + i * tile_words))
    → ◌≡◌ {A = Array} (record { n = n; sweeps = sweeps; tick = tick; tiles = tiles }) (array_in l)
unfolding array_in
loaded l a b c d = rw (a, b, c, d)
