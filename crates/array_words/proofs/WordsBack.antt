-- Nothing of an array is lost in its words. Assumes nothing.
use Prim.Native.Nat.{ℕ, ◌+◌, ◌*◌, ◌<◌, ◌≤◌}
use mathlib.Core.Path.{◌≡◌, refl, sym, ap, ◌∙◌}
use mathlib.Core.Bool.{Bool, true, false, not, cond}
use mathlib.Core.List.{List}
use native.Mathlib.Omega.{arith}
use native.Mathlib.Nat.{add-zero}
use lib.Dec.{T, eqb}
use lib.ListN.{get_or}
use lib.Ieee.{Float, binary64, fits, to_bits, of_bits}
use lib.Ieee.Bits.{of_bits-to_bits}
use Rattle.lists.specs.Tabulate.{tabulate}
use Rattle.lists.proofs.Tabulated.{get_d_tabulate, tabulated}
use Rattle.tile_wires.specs.declared.Quad.{Quad}
use Rattle.tile_wires.specs.declared.Part.{Part}
use Rattle.sizes.specs.Sizes.{most_processors, most_counted}
use Rattle.runs.specs.declared.Counts.{Counts}
use Rattle.tile.specs.declared.Tile.{Tile}
use Rattle.array.specs.declared.Array.{Array}
use Rattle.array.specs.Arrays.{no_tile}
use Rattle.array_words.specs.Words.{tile_words, array_words, quad_word, part_word, counts_word, tile_word, array_word, words_of, value_at}
use Rattle.array_words.specs.Words.{quad_in, part_in, counts_in, tile_in, array_in}
use Rattle.array_words.specs.Words.{Binary64Quad, Binary64Part, Binary64Tile, Binary64Array}
use Rattle.array_words.proofs.ArrayRead.{count_within}
use Rattle.array_words.proofs.WordsWritten.{matrix_word, vectors_word, cells_word, wires_word, counts_word_lem, tile_word_lem}

mark_back : (b : Bool) → not (eqb (cond b 1 0) 0) ≡ b
mark_back true = refl
mark_back false = refl

-- ---- a list that has the words from k on
module _ (l : List ℕ) where
  abbrev Has : ℕ → ℕ → (ℕ → ℕ) → Type 0
  Has k m f = (w : ℕ) → w < m → get_or l (k + w) 0 ≡ f w

  has_first : (k m n : ℕ) (f h : ℕ → ℕ) → m ≤ n → ((w : ℕ) → w < m → f w ≡ h w) → Has k n h → Has k m f
  has_first k m n f h b e d w o = d w (omega arith) ∙ sym (e w o)

  has_next : (k m j n : ℕ) (g h : ℕ → ℕ) → m + j ≤ n → ((w : ℕ) → w < j → g w ≡ h (m + w)) → Has k n h → Has (k + m) j g
  has_next k m j n g h b e d w o = let i : k + m + w ≡ k + (m + w) = omega arith in rw i (d (m + w) (omega arith) ∙ sym (e w o))

  value_back : (k : ℕ) (v : Float) → get_or l k 0 ≡ to_bits binary64 v → T (fits binary64 v) → value_at l k ≡ v
  unfolding value_at
  value_back k v e h = ap (of_bits binary64) e ∙ of_bits-to_bits binary64 v h

  quad_back : (k : ℕ) (q : Quad Float) → Has k 4 (quad_word q) → Binary64Quad q → quad_in l k ≡ q
  unfolding quad_in quad_word
  quad_back k q d h =
      rw (
        value_back k q.alpha (rw add-zero at (d 0 (omega arith))) h.alpha_fits,
        value_back (k + 1) q.beta (d 1 (omega arith)) h.beta_fits,
        value_back (k + 2) q.gamma (d 2 (omega arith)) h.gamma_fits,
        value_back (k + 3) q.delta (d 3 (omega arith)) h.delta_fits,
      )

  part_back : (k : ℕ) (p : Part) → Has k 8 (part_word p) → Binary64Part p → part_in l k ≡ p
  unfolding part_in
  part_back k p d h =
      rw (
        quad_back k p.matrix (has_first k 4 8 (quad_word p.matrix) (part_word p) (omega arith) (matrix_word p) d) h.matrix_fits,
        quad_back (k + 4) p.vectors (has_next k 4 4 8 (quad_word p.vectors) (part_word p) (omega arith) (vectors_word p) d) h.vectors_fit,
      )

  counts_back : (k : ℕ) (d : Counts) → Has k 2 (counts_word d) → d.turns ≤ most_counted → d.rounded ≤ most_counted → counts_in l k ≡ d
  unfolding counts_in counts_word
  counts_back k d e h o =
      rw (← (count_within l k (sym (rw add-zero at (e 0 (omega arith)))) h), ← (count_within l (k + 1) (sym (e 1 (omega arith))) o))

  tile_back : (k : ℕ) (x : Tile) → Has k tile_words (tile_word x) → Binary64Tile x → tile_in l k ≡ x
  unfolding tile_in tile_word
  tile_back k x d h =
      rw (
        part_back k x.cells (has_first k 8 tile_words (part_word x.cells) (tile_word x) (omega arith) (cells_word x) d) h.cells_fit,
        part_back (k + 8) x.wires (has_next k 8 8 tile_words (part_word x.wires) (tile_word x) (omega arith) (wires_word x) d) h.wires_fit,
        value_back (k + 16) x.row_wire (d 16 (omega arith)) h.row_fits,
        value_back (k + 17) x.column_wire (d 17 (omega arith)) h.column_fits,
        d 18 (omega arith),
        mark_back x.mark,
        counts_back (k + 19) x.counts (has_next k 19 2 tile_words (counts_word x.counts) (tile_word x) (omega arith) (counts_word_lem x) d) h.turns_fit
            h.rounded_fit,
      )

-- ---- the array
module _ (x : Array) where
  word_is : (k : ℕ) → k < array_words → get_or (words_of x) k 0 ≡ array_word x k
  unfolding words_of
  word_is k o = get_d_tabulate array_words (array_word x) k 0 o

  tile_words_lem : (i : ℕ) → i < most_processors * most_processors → Has (words_of x) (3 + i * tile_words) tile_words (tile_word (get_or x.tiles i no_tile))
  tile_words_lem i o w b = word_is (3 + i * tile_words + w) (omega arith) ∙ sym (tile_word_lem x i w b)

  tiles_back : Binary64Array x → x.tiles ≡ tabulate (most_processors * most_processors) (λ i. tile_in (words_of x) (3 + i * tile_words))
  tiles_back h =
      tabulated (most_processors * most_processors) (λ i. tile_in (words_of x) (3 + i * tile_words)) x.tiles no_tile h.tiles_many
      (λ i o. sym (tile_back (words_of x) (3 + i * tile_words) (get_or x.tiles i no_tile) (tile_words_lem i o) (h.tiles_fit i o)))

  pub words_back : Binary64Array x → array_in (words_of x) ≡ x
  unfolding array_in array_word
  words_back h = rw (word_is 0 (omega arith), word_is 1 (omega arith), word_is 2 (omega arith), ← tiles_back h)
