-- Document 01, "Neighbourhood": two arrays with equal n, S and T that agree in one tile and in the wires that lead to it agree in that tile, and so in its
-- outgoing wires, after the tick. Of the parameter wires P says where they agree, which may be only where the tile receives. Assumes nothing.
use Prim.Native.Nat.{ℕ, ◌-◌, ◌<◌, ◌≤◌}
use mathlib.Core.Path.{◌≡◌, refl, sym, ap, ◌∙◌}
use mathlib.Core.Bool.{true}
use Rattle.refusal.specs.Answers.{Answered, given, refused}
use Rattle.systolic.specs.Traffic.{receives}
use Rattle.systolic.proofs.Neighbourhood.{Alike, neighbourhood}
use Rattle.sizes.specs.Sizes.{most_processors, processors_of, steps_of}
use Rattle.sizes.proofs.Orders.{order_half}
use Rattle.tile_schedule.proofs.Answers.{made_means}
use Rattle.runs.specs.Cells.{Setting, setting}
use Rattle.tile_schedule.specs.Answers.{Tick, made, stopped, progress_of}
use Rattle.tile.specs.Tiles.{the_tile, operations}
use Rattle.array.specs.declared.Array.{Array}
use Rattle.array.specs.declared.Ticked.{Ticked}
use Rattle.array.specs.Arrays.{tile_at, tile_of, the_array, array_of, Ticks}
use Rattle.array.proofs.MadeTicks.{tile_after}
use Rattle.array_agreement.specs.Neighbours.{AgreeWhere}

module _ (x y : Array) (n-same : x.n ≡ y.n) (sweeps-same : x.sweeps ≡ y.sweeps) (tick_same : x.tick ≡ y.tick) (i j : ℕ)
    {P : Type 0} (received : receives (steps_of x.n x.sweeps) x.tick i j ≡ true → P) where
  alike : (N : ℕ) → AgreeWhere P N x.tiles y.tiles i j → Alike P (N - 1) (the_array x.tiles) (the_array y.tiles) i j
  unfolding the_array
  alike N a =
      record {
        tile = ap the_tile a.tile;
        wires = a.wires;
        row = λ n. unfold the_tile in (a.row n);
        column = λ n. unfold the_tile in (a.column n);
      }

  abbrev N : ℕ
  N = processors_of x.n

  abbrev K : ℕ
  K = steps_of x.n x.sweeps

  abbrev s : Setting
  s = setting x.n

  after_made : N ≤ most_processors → i < N → j < N → AgreeWhere P N x.tiles y.tiles i j
      → tile_at (array_of (given made) x).tiles i j ≡ tile_at (array_of (given made) y).tiles i j
  after_made few hi hj a =
      rw (← n-same, ← sweeps-same, ← tick_same)
      (tile_after s N K x.tick x.tiles i j few hi hj
      ∙ ap tile_of (neighbourhood (operations s) (N - 1) K x.tick (the_array x.tiles) (the_array y.tiles) i j received (alike N a))
      ∙ sym (tile_after s N K x.tick y.tiles i j few hi hj))

  same_answer : progress_of x.n x.sweeps x.tick ≡ progress_of y.n y.sweeps y.tick
  same_answer = rw (n-same, sweeps-same, tick_same)

  by_answer : (t : Answered Tick) → t ≡ progress_of x.n x.sweeps x.tick → i < N → j < N → AgreeWhere P N x.tiles y.tiles i j
      → tile_at (array_of t x).tiles i j ≡ tile_at (array_of t y).tiles i j
  by_answer (given made) e hi hj a = after_made (order_half x.n (made_means x.n x.sweeps x.tick e).order).1 hi hj a
  by_answer (given stopped) e hi hj a = a.tile
  by_answer (refused k values) e hi hj a = a.tile

  -- on any two records whatever
  pub array_neighbourhood : {r s : Ticked} → Ticks x r → Ticks y s → i < N → j < N → AgreeWhere P N x.tiles y.tiles i j
      → tile_at r.array.tiles i j ≡ tile_at s.array.tiles i j
  array_neighbourhood p q hi hj a =
      ap (λ (z : Array). tile_at z.tiles i j) p.hands_back
      ∙ by_answer (progress_of x.n x.sweeps x.tick) refl hi hj a
      ∙ ap (λ (t : Answered Tick). tile_at (array_of t y).tiles i j) same_answer
      ∙ sym (ap (λ (z : Array). tile_at z.tiles i j) q.hands_back)
