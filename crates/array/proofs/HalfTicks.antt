-- The loops that turn all tiles and that set all their wires. Assumes nothing.
use Prim.Native.Nat.{ℕ, ◌+◌, ◌-◌, ◌*◌, ◌≤◌, ◌<◌}
use mathlib.Core.Path.{◌≡◌, refl, sym, ap, ◌∙◌}
use mathlib.Core.Bool.{true, false}
use mathlib.Core.List.{List}
use native.Mathlib.Omega.{arith}
use lib.ListN.{length, get_or, set}
use lib.Ieee.{Float}
use Rattle.systolic.specs.Tiles as theory
use Rattle.systolic.specs.Tiles.{settled_tile, action_at, distance}
use Rattle.systolic.specs.Traffic.{changes_cells}
use Rattle.sizes.specs.Sizes.{most_processors, processors_of, steps_of}
use Rattle.runs.specs.declared.Counts.{Counts}
use Rattle.runs.specs.Cells.{Cell, Setting, setting}
use Rattle.tile_schedule.proofs.Answers.{is_made}
use Rattle.tile.specs.declared.Tile.{Tile}
use Rattle.tile.specs.Tiles.{the_tile, operations}
use Rattle.array.specs.declared.Array.{Array}
use Rattle.array.specs.Arrays.{no_tile, tile_of, the_array}
use Rattle.array.specs.Halves.{turned_in, settled_in, turned, settled}
use Rattle.array.specs.Runs.{next_array, GoesOn}
use Rattle.array.proofs.TileRows.{Made, one_made, one_stays, all_made}
use Rattle.array.proofs.TickedTiles.{not_turned, turns_as_first, settles, both_halves}

-- Only the tiles of y may differ from those of x.
pub record SameTick (x y : Array) : Type 0 where
  pub order : y.n ≡ x.n
  pub sweeps : y.sweeps ≡ x.sweeps
  pub tick : y.tick ≡ x.tick

pub with_tiles : {x y : Array} {l : List Tile} → SameTick x y → y.tiles ≡ l → y ≡ record { n = x.n; sweeps = x.sweeps; tick = x.tick; tiles = l }
with_tiles {x} {y} {l} s e = rw (← s.order, ← s.sweeps, ← s.tick, ← e)

module _ (x : Array) where
  abbrev N : ℕ
  N = processors_of x.n

  abbrev K : ℕ
  K = steps_of x.n x.sweeps

  abbrev pub turns_of : ℕ → ℕ → theory.Tile Cell Float Float Counts
  turns_of = turned_in (setting x.n) N K x.tick (the_array x.tiles)

  abbrev pub settles_of : ℕ → ℕ → theory.Tile Cell Float Float Counts
  settles_of = settled_in (setting x.n) N K x.tick (the_array x.tiles)

  -- the tiles before column j of row i are made
  abbrev pub Turned : ℕ → ℕ → List Tile → Type 0
  Turned = Made N turns_of x.tiles

  abbrev pub Settled : ℕ → ℕ → List Tile → Type 0
  Settled = Made N settles_of x.tiles

  module _ {y : Array} (same : SameTick x y) (few : N ≤ most_processors) (i : ℕ) (all : N ≤ i) (long : length x.tiles ≡ most_processors * most_processors) where
    pub turned_all : Turned i 0 y.tiles → y ≡ record { n = x.n; sweeps = x.sweeps; tick = x.tick; tiles = turned x }
    turned_all h = with_tiles same (all_made N turns_of x.tiles few i all long h ∙ unfold turned in refl)

    pub settled_all : Settled i 0 y.tiles → y ≡ record { n = x.n; sweeps = x.sweeps; tick = x.tick; tiles = settled x }
    settled_all h = with_tiles same (all_made N settles_of x.tiles few i all long h ∙ unfold settled in refl)

  module _ {y : Array} (same : SameTick x y) (few : N ≤ most_processors) (i j : ℕ) (hi : i < N) (hj : j < N) where
    pub turned_one : length x.tiles ≡ most_processors * most_processors → Turned i j y.tiles
        → true ≡ changes_cells (action_at K (distance i j) y.tick)
        → {r : Tile} {p : ℕ} → p ≡ N → r ≡ tile_of (turned_in (setting y.n) p K y.tick (the_array y.tiles) i j)
        → Turned i (j + 1) (set y.tiles (i * most_processors + j) r)
    turned_one long h c {r} k e =
        one_made N turns_of x.tiles few i j hi hj h long
        ((rw (same.order, same.tick, k) at e)
        ∙ ap tile_of (turns_as_first (setting x.n) N K x.tick x.tiles h i j hi hj few (sym (rw same.tick at c)) (omega arith)))

    pub turned_none : Turned i j y.tiles → false ≡ changes_cells (action_at K (distance i j) y.tick) → Turned i (j + 1) y.tiles
    turned_none h c =
        one_stays N turns_of x.tiles few i j hi hj h (not_turned (setting x.n) N K x.tick x.tiles i j (sym (rw same.tick at c)))

    pub settled_one : length x.tiles ≡ most_processors * most_processors → Settled i j y.tiles → (r : Tile)
        → ((s : Setting) → the_tile r ≡ settled_tile (operations s) (N - 1) i j (action_at K (distance i j) y.tick) (the_tile (get_or y.tiles (i * most_processors + j) no_tile)))
        → Settled i (j + 1) (set y.tiles (i * most_processors + j) r)
    settled_one long h r e =
        one_made N settles_of x.tiles few i j hi hj h long
        (settles (setting x.n) N K x.tick x.tiles i j h (rw same.tick at (e (setting x.n))))

-- ---- both halves, one after the other
pub one_tick : {x y z : Array} {t : ℕ} → GoesOn x 1 → y ≡ record { n = x.n; sweeps = x.sweeps; tick = x.tick; tiles = turned x }
    → z ≡ record { n = y.n; sweeps = y.sweeps; tick = y.tick; tiles = settled y } → t ≡ x.tick + 1
    → record { n = z.n; sweeps = z.sweeps; tick = t; tiles = z.tiles } ≡ next_array x
unfolding next_array
one_tick {x} g e f h =
    rw (f, e, h, ← (is_made x.n x.sweeps x.tick g.order g.few (omega (arith, g.room))))
    (unfold turned settled in (rw (both_halves (setting x.n) (N x) (K x) x.tick x.tiles)))
