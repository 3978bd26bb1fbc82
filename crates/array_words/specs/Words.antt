-- The record of an array as words, for callers that keep it between ticks in a lent buffer: n, S and T, then tile after tile, row by row. A value
-- is its 64 bits. Definitions only.
use Rattle.std.specs.Prelude.{ℕ, zero, suc, ◌+◌, ◌-◌, ◌*◌, ◌/◌, ◌%◌, ◌<◌, ◌≤◌, ◌≡◌, not, cond, List, T, eqb, ltb, length, get_or, set, Float}
use Rattle.std.specs.Float.{binary64}
use Rattle.std.specs.Float.Ieee.{fits, to_bits, of_bits}
use Rattle.lists.specs.Tabulate.{tabulate}
use Rattle.sizes.specs.Sizes.{most_processors, most_counted}
use Rattle.tile_wires.specs.declared.Quad.{Quad}
use Rattle.tile_wires.specs.declared.Part.{Part}
use Rattle.runs.specs.declared.Counts.{Counts}
use Rattle.tile.specs.declared.Tile.{Tile}
use Rattle.array.specs.declared.Array.{Array}
use Rattle.array.specs.Arrays.{no_tile}

-- The words of a tile, and of an array: three before the tiles.
abbrev pub tile_words : ℕ
tile_words = 21

abbrev pub array_words : ℕ
array_words = 3 + most_processors * most_processors * tile_words

-- ---- the words of an array
-- α β / γ δ, row by row
unfoldable pub quad_word : Quad Float → ℕ → ℕ
quad_word q w =
    to_bits binary64 (cond (eqb w 0) q.alpha (cond (eqb w 1) q.beta (cond (eqb w 2) q.gamma q.delta)))

-- the part of the matrix, then that of the eigenvectors
unfoldable pub part_word : Part → ℕ → ℕ
part_word p w = cond (ltb w 4) (quad_word p.matrix w) (quad_word p.vectors (w - 4))

-- the turns, then the rounded pairs
unfoldable pub counts_word : Counts → ℕ → ℕ
counts_word d w = cond (eqb w 0) d.turns d.rounded

-- the cells, the wires, the tangents along the row and along the column, the mark, the counts
unfoldable pub tile_word : Tile → ℕ → ℕ
tile_word x w =
    cond (ltb w 8) (part_word x.cells w)
    (cond (ltb w 16) (part_word x.wires (w - 8))
    (cond (eqb w 16) (to_bits binary64 x.row_wire)
    (cond (eqb w 17) (to_bits binary64 x.column_wire) (cond (eqb w 18) (cond x.mark 1 0) (counts_word x.counts (w - 19))))))

unfoldable pub array_word : Array → ℕ → ℕ
array_word x k =
    cond (eqb k 0) x.n
    (cond (eqb k 1) x.sweeps (cond (eqb k 2) x.tick (tile_word (get_or x.tiles ((k - 3) / tile_words) no_tile) ((k - 3) % tile_words))))

unfoldable pub words_of : Array → List ℕ
words_of x = tabulate array_words (array_word x)

-- ---- a list with the m words f 0 to f (m - 1) written from `at` on
unfoldable pub written_at : ℕ → ℕ → (ℕ → ℕ) → List ℕ → List ℕ
written_at at zero f l = l
written_at at (suc m) f l = set (written_at at m f l) (at + m) (f m)

-- ---- the array in a list of words, where a word beyond its end counts as 0
unfoldable pub value_at : List ℕ → ℕ → Float
value_at l k = of_bits binary64 (get_or l k 0)

-- A word above the most that a tile counts to counts as the most.
unfoldable pub count_at : List ℕ → ℕ → ℕ
count_at l k = cond (ltb most_counted (get_or l k 0)) most_counted (get_or l k 0)

unfoldable pub quad_in : List ℕ → ℕ → Quad Float
quad_in l k = record { alpha = value_at l k; beta = value_at l (k + 1); gamma = value_at l (k + 2); delta = value_at l (k + 3) }

unfoldable pub part_in : List ℕ → ℕ → Part
part_in l k = record { matrix = quad_in l k; vectors = quad_in l (k + 4) }

unfoldable pub counts_in : List ℕ → ℕ → Counts
counts_in l k = record { turns = count_at l k; rounded = count_at l (k + 1) }

-- any word but 0 is a mark
unfoldable pub tile_in : List ℕ → ℕ → Tile
tile_in l k =
    record {
      cells = part_in l k;
      wires = part_in l (k + 8);
      row_wire = value_at l (k + 16);
      column_wire = value_at l (k + 17);
      mark = not (eqb (get_or l (k + 18) 0) 0);
      counts = counts_in l (k + 19);
    }

unfoldable pub array_in : List ℕ → Array
array_in l =
    record {
      n = get_or l 0 0;
      sweeps = get_or l 1 0;
      tick = get_or l 2 0;
      tiles = tabulate (most_processors * most_processors) (λ i. tile_in l (3 + i * tile_words));
    }

-- What a list of words holds after an array is stored in it: a list of another length stays as it was.
unfoldable pub stored_in : Array → List ℕ → List ℕ
stored_in x l = cond (eqb (length l) array_words) (words_of x) l

-- ---- an array as the code has it: a tile for each place, each value one of binary64, no count above the most
pub record Binary64Quad (q : Quad Float) : Type 0 where
  pub alpha_fits : T (fits binary64 q.alpha)
  pub beta_fits : T (fits binary64 q.beta)
  pub gamma_fits : T (fits binary64 q.gamma)
  pub delta_fits : T (fits binary64 q.delta)

pub record Binary64Part (p : Part) : Type 0 where
  pub matrix_fits : Binary64Quad p.matrix
  pub vectors_fit : Binary64Quad p.vectors

pub record Binary64Tile (x : Tile) : Type 0 where
  pub cells_fit : Binary64Part x.cells
  pub wires_fit : Binary64Part x.wires
  pub row_fits : T (fits binary64 x.row_wire)
  pub column_fits : T (fits binary64 x.column_wire)
  pub turns_fit : x.counts.turns ≤ most_counted
  pub rounded_fit : x.counts.rounded ≤ most_counted

pub record Binary64Array (x : Array) : Type 0 where
  pub tiles_many : length x.tiles ≡ most_processors * most_processors
  pub tiles_fit : (i : ℕ) → i < most_processors * most_processors → Binary64Tile (get_or x.tiles i no_tile)
