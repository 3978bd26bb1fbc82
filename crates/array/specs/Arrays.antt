-- Document 01, "The array": the record of tiles, and what a tick makes of it. Definitions only.
use Rattle.std.specs.Prelude.{ℕ, suc, ◌+◌, ◌-◌, ◌*◌, ◌/◌, ◌%◌, ◌<◌, ◌≡◌, Bool, false, cond, ◌&&◌, List, eqb, ltb, get_or, Float}
use Rattle.std.specs.Float.{nan}
use Rattle.refusal.specs.Answers.{Answered, given, refused}
use Rattle.lists.specs.Tabulate.{tabulate}
use Rattle.systolic.specs.Blocks.{Block}
use Rattle.systolic.specs.Tiles as theory
use Rattle.systolic.specs.Arrays.{tick}
use Rattle.tile_wires.specs.declared.Quad.{Quad}
use Rattle.tile_wires.specs.declared.Part.{Part}
use Rattle.sizes.specs.Sizes.{most_processors, processors_of, steps_of}
use Rattle.runs.specs.declared.Counts.{Counts}
use Rattle.runs.specs.Counts.{counts}
use Rattle.runs.specs.Cells.{Cell, block_entries, block_vectors, Setting, setting}
use Rattle.tile_schedule.specs.Answers.{Tick, made, stopped, progress_answered, progress_of}
use Rattle.tile.specs.declared.Tile.{Tile}
use Rattle.tile.specs.Tiles.{quad_of, the_tile, operations}
use Rattle.array.specs.declared.Array.{Array}
use Rattle.array.specs.declared.Ticked.{Ticked}
use Rattle.array.specs.declared.wiring.Near.{Near}

-- What stands where there is no tile.
unfoldable pub no_quad : Quad Float
no_quad = record { alpha = nan; beta = nan; gamma = nan; delta = nan }

unfoldable pub no_part : Part
no_part = record { matrix = no_quad; vectors = no_quad }

unfoldable pub no_tile : Tile
no_tile = record { cells = no_part; wires = no_part; row_wire = nan; column_wire = nan; mark = false; counts = counts 0 0 }

-- The tile in row i and column j.
unfoldable pub tile_at : List Tile → ℕ → ℕ → Tile
tile_at l i j = get_or l (i * most_processors + j) no_tile

-- The tile of the code for one of the theory.
unfoldable pub part_of : Block Cell → Part
part_of b = record { matrix = quad_of (block_entries b); vectors = quad_of (block_vectors b) }

unfoldable pub tile_of : theory.Tile Cell Float Float Counts → Tile
tile_of x =
    record {
      cells = part_of x.cells;
      wires = part_of x.wires;
      row_wire = x.row_wire;
      column_wire = x.column_wire;
      mark = x.mark;
      counts = x.kept;
    }

-- A list of tiles as the theory's array.
unfoldable pub the_array : List Tile → ℕ → ℕ → theory.Tile Cell Float Float Counts
the_array l i j = the_tile (tile_at l i j)

-- The place k is that of a tile in use, of N by N tiles.
abbrev pub is_used : ℕ → ℕ → Bool
is_used N k = ltb (k / most_processors) N && ltb (k % most_processors) N

-- The tiles in use are those that A says, by row and column; the others stay.
abbrev pub tiles_by : ℕ → (ℕ → ℕ → theory.Tile Cell Float Float Counts) → List Tile → List Tile
tiles_by N A l =
    tabulate (most_processors * most_processors) (λ k.
    cond (is_used N k) (tile_of (A (k / most_processors) (k % most_processors))) (get_or l k no_tile))

-- The tiles after tick t of a run of K steps on N by N tiles at the setting s.
unfoldable pub tiles_after : Setting → ℕ → ℕ → ℕ → List Tile → List Tile
tiles_after s N K t l = tiles_by N (tick (operations s) (N - 1) K t (the_array l)) l

-- The array beside the answer: a refused or stopped tick gives it back as it was.
abbrev pub array_of : Answered Tick → Array → Array
array_of (given made) x =
    record {
      n = x.n;
      sweeps = x.sweeps;
      tick = x.tick + 1;
      tiles = tiles_after (setting x.n) (processors_of x.n) (steps_of x.n x.sweeps) x.tick x.tiles;
    }
array_of (given stopped) x = x
array_of (refused k values) x = x

pub record Ticks (x : Array) (r : Ticked) : Type 0 where
  pub answers : progress_answered r.answer ≡ progress_of x.n x.sweeps x.tick
  pub hands_back : r.array ≡ array_of (progress_of x.n x.sweeps x.tick) x

-- ---- where the wires of a tile come from
-- The neighbour after i, and the last itself.
unfoldable pub down_of : ℕ → ℕ → ℕ
down_of m i = cond (eqb i m) m (suc i)

unfoldable pub nearer_of : ℕ → ℕ → ℕ
nearer_of i j = cond (ltb i j) (j - 1) (cond (ltb j i) (suc j) j)

unfoldable pub near_of : ℕ → ℕ → ℕ → Near
near_of m i j =
    record {
      corners = record {
        alpha = (i - 1) * most_processors + (j - 1);
        beta = (i - 1) * most_processors + down_of m j;
        gamma = down_of m i * most_processors + (j - 1);
        delta = down_of m i * most_processors + down_of m j;
      };
      row = i * most_processors + nearer_of i j;
      column = nearer_of j i * most_processors + j;
    }

-- All are places of tiles.
pub record Inside (r : Near) : Type 0 where
  pub alpha_inside : r.corners.alpha < most_processors * most_processors
  pub beta_inside : r.corners.beta < most_processors * most_processors
  pub gamma_inside : r.corners.gamma < most_processors * most_processors
  pub delta_inside : r.corners.delta < most_processors * most_processors
  pub row_inside : r.row < most_processors * most_processors
  pub column_inside : r.column < most_processors * most_processors
