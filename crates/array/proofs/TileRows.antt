-- Tiles that are made one after the other, row by row: what a loop over rows and columns leaves. Assumes nothing.
use Prim.Native.Nat.{ℕ, ◌+◌, ◌*◌, ◌/◌, ◌%◌, ◌≤◌, ◌<◌}
use mathlib.Core.Path.{◌≡◌, sym, ap, ◌∙◌}
use mathlib.Core.Bool.{true, false, cond}
use mathlib.Core.List.{List}
use native.Mathlib.Omega.{arith}
use borrow.Author.Tests.{lt-ltb, le-ltb}
use lib.ListN.{length, get_or, set}
use lib.Ieee.{Float}
use Rattle.lists.specs.Tabulate.{tabulate}
use Rattle.lists.proofs.Replaced.{Replaced, replaced_next, replaced_skip, replaced_all}
use Rattle.systolic.specs.Tiles as theory
use Rattle.sizes.specs.Sizes.{most_processors}
use Rattle.runs.specs.declared.Counts.{Counts}
use Rattle.runs.specs.Cells.{Cell}
use Rattle.tile.specs.declared.Tile.{Tile}
use Rattle.array.specs.Arrays.{no_tile, tile_at, tile_of, is_used, tiles_by}

-- ---- which places are in use
module _ (N i j : ℕ) where
  pub in_use : i < N → j < N → N ≤ most_processors → is_used N (i * most_processors + j) ≡ true
  in_use hi hj few =
      let a : (i * most_processors + j) / most_processors ≡ i = omega arith in
      let b : (i * most_processors + j) % most_processors ≡ j = omega arith in
      rw (a, b, lt-ltb i N hi, lt-ltb j N hj)

pub row_unused : (N k : ℕ) → N ≤ k / most_processors → is_used N k ≡ false
row_unused N k h = rw (le-ltb (k / most_processors) N h)

-- ---- the tiles in use as A says
module _ (N : ℕ) (A : ℕ → ℕ → theory.Tile Cell Float Float Counts) (l : List Tile) where
  -- what stands in place k in the end
  abbrev pub made_at : ℕ → Tile
  made_at k = cond (is_used N k) (tile_of (A (k / most_processors) (k % most_processors))) (get_or l k no_tile)

  unused_stays : (k : ℕ) → is_used N k ≡ false → get_or l k no_tile ≡ made_at k
  unused_stays k u = rw u

  -- the tiles before column j of row i are made
  abbrev pub Made : ℕ → ℕ → List Tile → Type 0
  Made i j cur = Replaced no_tile made_at l (i * most_processors + j) cur

  module _ (few : N ≤ most_processors) where
    module _ (i j : ℕ) (hi : i < N) (hj : j < N) {cur : List Tile} (h : Made i j cur) where
      used_at : made_at (i * most_processors + j) ≡ tile_of (A i j)
      used_at =
          let a : (i * most_processors + j) / most_processors ≡ i = omega arith in
          let b : (i * most_processors + j) % most_processors ≡ j = omega arith in
          rw (in_use N i j hi hj few) (rw (a, b))

      next : i * most_processors + (j + 1) ≡ i * most_processors + j + 1
      next = omega arith

      pub one_made : length l ≡ most_processors * most_processors → {x : Tile} → x ≡ tile_of (A i j) → Made i (j + 1) (set cur (i * most_processors + j) x)
      one_made long e = rw next (replaced_next _ cur _ h (omega arith) (e ∙ sym used_at))

      pub one_stays : tile_at l i j ≡ tile_of (A i j) → Made i (j + 1) cur
      unfolding tile_at
      one_stays e = rw next (replaced_skip _ cur h (e ∙ sym used_at))

    pub all_made : (i : ℕ) {cur : List Tile} → N ≤ i → length l ≡ most_processors * most_processors → Made i 0 cur → cur ≡ tiles_by N A l
    all_made i {cur} o long h =
        replaced_all _ cur h (λ k b. unused_stays k (row_unused N k (omega arith))) ∙ ap (λ (n : ℕ). tabulate n made_at) long
