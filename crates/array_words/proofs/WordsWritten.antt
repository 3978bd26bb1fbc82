-- The lists of words that the stores leave. Assumes nothing.
use Prim.Native.Nat.{ℕ, zero, suc, ◌+◌, ◌-◌, ◌*◌, ◌/◌, ◌%◌, ◌<◌, ◌≤◌}
use mathlib.Core.Path.{◌≡◌, refl, ◌∙◌}
use mathlib.Core.Bool.{Bool, true, false, cond}
use mathlib.Core.List.{List}
use native.Mathlib.Omega.{arith}
use native.Mathlib.Nat.{add-zero, add-suc}
use native.Mathlib.Numerals.{add-one}
use borrow.Author.Tests.{lt-ltb, le-ltb, eq-eqb, ne_eqb}
use mir.Val.{bool_byte}
use lib.ListN.{length, get_or, set, length-set}
use lib.Ieee.{Float, binary64, to_bits}
use Rattle.lists.proofs.Filled.{Filled, filled_none, filled_next, filled_all}
use Rattle.sizes.specs.Sizes.{most_processors}
use Rattle.tile_wires.specs.declared.Quad.{Quad}
use Rattle.tile_wires.specs.declared.Part.{Part}
use Rattle.runs.specs.declared.Counts.{Counts}
use Rattle.tile.specs.declared.Tile.{Tile}
use Rattle.array.specs.declared.Array.{Array}
use Rattle.array.specs.Arrays.{no_tile}
use Rattle.array_words.specs.Words.{tile_words, array_words, quad_word, part_word, counts_word, tile_word, array_word, words_of, written_at, stored_in}

-- ---- which words are those of a part
pub matrix_word : (p : Part) (w : ℕ) → w < 4 → quad_word p.matrix w ≡ part_word p w
unfolding part_word
matrix_word p w h = rw (lt-ltb w 4 h)

pub vectors_word : (p : Part) (w : ℕ) → w < 4 → quad_word p.vectors w ≡ part_word p (4 + w)
unfolding part_word
vectors_word p w h = let d : 4 + w - 4 ≡ w = omega arith in rw (le-ltb (4 + w) 4 (omega arith), d)

pub cells_word : (x : Tile) (w : ℕ) → w < 8 → part_word x.cells w ≡ tile_word x w
unfolding tile_word
cells_word x w h = rw (lt-ltb w 8 h)

pub wires_word : (x : Tile) (w : ℕ) → w < 8 → part_word x.wires w ≡ tile_word x (8 + w)
unfolding tile_word
wires_word x w h = let d : 8 + w - 8 ≡ w = omega arith in rw (le-ltb (8 + w) 8 (omega arith), lt-ltb (8 + w) 16 (omega arith), d)

pub counts_word_lem : (x : Tile) (w : ℕ) → w < 2 → counts_word x.counts w ≡ tile_word x (19 + w)
unfolding tile_word
counts_word_lem x w h =
    let d : 19 + w - 19 ≡ w = omega arith in
    rw (
      le-ltb (19 + w) 8 (omega arith),
      le-ltb (19 + w) 16 (omega arith),
      ne_eqb (19 + w) 16 (λ e. omega arith),
      ne_eqb (19 + w) 17 (λ e. omega arith),
      ne_eqb (19 + w) 18 (λ e. omega arith),
      d,
    )

-- ---- words behind words
pub written_long : (at m : ℕ) (f : ℕ → ℕ) (l : List ℕ) → length (written_at at m f l) ≡ length l
unfolding written_at
written_long at zero f l = refl
written_long at (suc m) f l = length-set (written_at at m f l) (at + m) (f m) ∙ written_long at m f l

written_same : (at m : ℕ) (f g : ℕ → ℕ) (l : List ℕ) → ((w : ℕ) → w < m → f w ≡ g w) → written_at at m f l ≡ written_at at m g l
unfolding written_at
written_same at zero f g l e = refl
written_same at (suc m) f g l e = rw (written_same at m f g l (λ w h. e w (omega arith)), e m (omega arith))

written_on : (at m k : ℕ) (f g h : ℕ → ℕ) (l : List ℕ) → ((w : ℕ) → w < m → f w ≡ h w) → ((w : ℕ) → w < k → g w ≡ h (m + w))
    → written_at (at + m) k g (written_at at m f l) ≡ written_at at (m + k) h l
unfolding written_at
written_on at m zero f g h l e d = rw add-zero (written_same at m f h l e)
written_on at m (suc k) f g h l e d =
    let i : at + m + k ≡ at + (m + k) = omega arith in
    rw (add-suc, written_on at m k f g h l e (λ w o. d w (omega arith)), d k (omega arith), i)

-- ---- the words of a tile
pub quad_written : (q : Quad Float) (at : ℕ) (l : List ℕ) {a b c d : ℕ} → a ≡ to_bits binary64 q.alpha → b ≡ to_bits binary64 q.beta
    → c ≡ to_bits binary64 q.gamma
    → d ≡ to_bits binary64 q.delta → set (set (set (set l at a) (at + 1) b) (at + 2) c) (at + 3) d ≡ written_at at 4 (quad_word q) l
unfolding written_at quad_word
quad_written q at l e f g h = rw (e, f, g, h, add-zero)

pub part_written : (p : Part) (at : ℕ) (l : List ℕ) {r s : List ℕ} → r ≡ written_at at 4 (quad_word p.matrix) l
    → s ≡ written_at (at + 4) 4 (quad_word p.vectors) r
    → s ≡ written_at at 8 (part_word p) l
part_written p at l e f = f ∙ rw e (written_on at 4 4 (quad_word p.matrix) (quad_word p.vectors) (part_word p) l (matrix_word p) (vectors_word p))

parts_written : (x : Tile) (at : ℕ) (l : List ℕ) {r s : List ℕ} → r ≡ written_at at 8 (part_word x.cells) l → s ≡ written_at (at + 8) 8 (part_word x.wires) r
    → s ≡ written_at at 16 (tile_word x) l
parts_written x at l e f = f ∙ rw e (written_on at 8 8 (part_word x.cells) (part_word x.wires) (tile_word x) l (cells_word x) (wires_word x))

mark_bit : (b : Bool) → bool_byte b ≡ cond b 1 0
mark_bit true = refl
mark_bit false = refl

pub counts_written : (d : Counts) (at : ℕ) (l : List ℕ) → set (set l at d.turns) (at + 1) d.rounded ≡ written_at at 2 (counts_word d) l
unfolding written_at counts_word
counts_written d at l = rw add-zero

-- the words before the counts
front_written : (x : Tile) (at : ℕ) (l : List ℕ) {r s : List ℕ} {a b : ℕ} → r ≡ written_at at 8 (part_word x.cells) l
    → s ≡ written_at (at + 8) 8 (part_word x.wires) r → a ≡ to_bits binary64 x.row_wire → b ≡ to_bits binary64 x.column_wire
    → set (set (set s (at + 16) a) (at + 17) b) (at + 18) (bool_byte x.mark) ≡ written_at at 19 (tile_word x) l
unfolding written_at tile_word
front_written x at l e f g h = rw (parts_written x at l e f, g, h, mark_bit)

pub tile_written : (x : Tile) (at : ℕ) (l : List ℕ) {r s u : List ℕ} {a b : ℕ} → r ≡ written_at at 8 (part_word x.cells) l
    → s ≡ written_at (at + 8) 8 (part_word x.wires) r → a ≡ to_bits binary64 x.row_wire → b ≡ to_bits binary64 x.column_wire
    → u ≡ written_at (at + 19) 2 (counts_word x.counts) (set (set (set s (at + 16) a) (at + 17) b) (at + 18) (bool_byte x.mark))
    → u ≡ written_at at tile_words (tile_word x) l
tile_written x at l e f g h k =
    k ∙ rw (front_written x at l e f g h) (written_on at 19 2 (tile_word x) (counts_word x.counts) (tile_word x) l (λ w o. refl) (counts_word_lem x))

-- ---- the words of an array
filled_written : {f : ℕ → ℕ} {n : ℕ} (k m : ℕ) (g : ℕ → ℕ) (l : List ℕ) → Filled 0 f n k l → k + m ≤ n
    → ((w : ℕ) → w < m → g w ≡ f (k + w)) → Filled 0 f n (k + m) (written_at k m g l)
unfolding written_at
filled_written k zero g l h o e = rw add-zero h
filled_written k (suc m) g l h o e =
    let before = filled_written k m g l h (omega arith) (λ w b. e w (omega arith)) in
    rw (add-suc, ← add-one) (filled_next (k + m) (written_at k m g l) (g m) before (omega arith) (e m (omega arith)))

module _ (x : Array) where
  pub tile_word_lem : (i w : ℕ) → w < tile_words → tile_word (get_or x.tiles i no_tile) w ≡ array_word x (3 + i * tile_words + w)
  unfolding array_word
  tile_word_lem i w h =
      let k = 3 + i * tile_words + w in
      let q : (k - 3) / tile_words ≡ i = omega arith in
      let r : (k - 3) % tile_words ≡ w = omega arith in
      rw (ne_eqb k 0 (λ e. omega arith), ne_eqb k 1 (λ e. omega arith), ne_eqb k 2 (λ e. omega arith), q, r)

  pub head_stored : (l : List ℕ) → length l ≡ array_words → Filled 0 (array_word x) array_words 3 (set (set (set l 0 x.n) 1 x.sweeps) 2 x.tick)
  unfolding array_word
  head_stored l e = filled_next 2 _ _ (filled_next 1 _ _ (filled_next 0 _ _ (filled_none l e) (omega arith) refl) (omega arith) refl) (omega arith) refl

  pub tile_stored : (i : ℕ) (l : List ℕ) {r : List ℕ} → Filled 0 (array_word x) array_words (3 + i * tile_words) l → i < most_processors * most_processors
      → r ≡ written_at (3 + i * tile_words) tile_words (tile_word (get_or x.tiles i no_tile)) l
      → Filled 0 (array_word x) array_words (3 + (i + 1) * tile_words) r
  tile_stored i l h o e =
      let n : 3 + (i + 1) * tile_words ≡ 3 + i * tile_words + tile_words = omega arith in
      rw (n, e) (filled_written (3 + i * tile_words) tile_words (tile_word (get_or x.tiles i no_tile)) l h (omega arith) (tile_word_lem i))

  pub all_stored : (k : ℕ) (l r : List ℕ) → length l ≡ array_words → Filled 0 (array_word x) array_words k r → array_words ≤ k → r ≡ stored_in x l
  unfolding stored_in words_of
  all_stored k l r e h o = rw (eq-eqb (length l) array_words e) (filled_all k r h o)

  pub none_stored : (l : List ℕ) → ¬ (length l ≡ array_words) → l ≡ stored_in x l
  unfolding stored_in
  none_stored l n = rw (ne_eqb (length l) array_words n)
