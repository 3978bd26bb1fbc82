-- Ticks one after the other. Assumes nothing.
use Prim.Native.Nat.{ℕ, zero, suc, ◌+◌, ◌-◌, ◌*◌, ◌≤◌, ◌<◌}
use mathlib.Core.Path.{◌≡◌, refl, ap, ◌∙◌}
use mathlib.Core.List.{List}
use native.Mathlib.Nat.{zero-add, suc-add}
use native.Mathlib.Omega.{arith}
use Rattle.refusal.specs.Answers.{Answered, given, refused}
use Rattle.sizes.specs.Sizes.{most_processors, largest_order, most_sweeps, steps_of, processors_of}
use Rattle.sizes.proofs.Orders.{order_half, steps_few}
use Rattle.runs.specs.Cells.{Setting, setting}
use Rattle.tile_schedule.specs.Answers.{Tick, made, stopped, progress_of}
use Rattle.tile_schedule.proofs.Answers.{is_made}
use Rattle.tile.specs.declared.Tile.{Tile}
use Rattle.array.specs.declared.Array.{Array}
use Rattle.array.specs.Arrays.{tiles_after, array_of}
use Rattle.array.specs.Runs.{next_array, ticked, GoesOn}

-- ---- ticks
order_kept : (t : Answered Tick) (x : Array) → (array_of t x).n ≡ x.n
order_kept (given made) x = refl
order_kept (given stopped) x = refl
order_kept (refused k values) x = refl

pub ticked_order : (k : ℕ) (x : Array) → (ticked k x).n ≡ x.n
unfolding ticked next_array
ticked_order zero x = refl
ticked_order (suc k) x = let y = ticked k x in order_kept (progress_of y.n y.sweeps y.tick) y ∙ ticked_order k x

pub ticked_more : (j k : ℕ) (x : Array) → ticked (j + k) x ≡ ticked j (ticked k x)
unfolding ticked
ticked_more zero k x = rw zero-add
ticked_more (suc j) k x = rw suc-add (ap next_array (ticked_more j k x))

-- the tiles after k ticks from tick t on
unfoldable pub tiles_from : Setting → ℕ → ℕ → ℕ → ℕ → List Tile → List Tile
tiles_from s N K t zero l = l
tiles_from s N K t (suc k) l = tiles_after s N K (t + k) (tiles_from s N K t k l)

module _ (x : Array) where
  abbrev N : ℕ
  N = processors_of x.n

  abbrev K : ℕ
  K = steps_of x.n x.sweeps

  -- the tiles after k ticks from the next on
  abbrev next_tiles : ℕ → List Tile
  next_tiles k = tiles_from (setting x.n) N K x.tick k x.tiles

  -- ticks that are all made
  pub ticked_made : (k : ℕ) → GoesOn x k → ticked k x ≡ record { n = x.n; sweeps = x.sweeps; tick = x.tick + k; tiles = next_tiles k }
  unfolding ticked tiles_from
  ticked_made zero g = let e : x.tick + 0 ≡ x.tick = omega arith in rw e
  ticked_made (suc k) g = ap next_array (ticked_made k (record { order = g.order; few = g.few; room = omega (arith, g.room) })) ∙ next
    where
      next : next_array (record { n = x.n; sweeps = x.sweeps; tick = x.tick + k; tiles = next_tiles k })
          ≡ record { n = x.n; sweeps = x.sweeps; tick = x.tick + suc k; tiles = tiles_after (setting x.n) N K (x.tick + k) (next_tiles k) }
      next = unfold next_array in
          (let e : x.tick + k + 1 ≡ x.tick + suc k = omega arith in
          rw (← (is_made x.n x.sweeps (x.tick + k) g.order g.few (omega (arith, g.room)))) (rw e))

module _ {x : Array} {count : ℕ} (goes : GoesOn x count) where
  -- the last tick is early
  pub early : x.tick + count ≤ 3 * (most_sweeps * largest_order) + most_processors
  early =
      let h = order_half _ goes.order in
      let k = steps_few _ x.sweeps goes.order goes.few in
      omega (arith, goes.room)

  module _ (k : ℕ) (h : k < count) where
    pub tick_at : (ticked k x).tick ≡ x.tick + k
    tick_at =
        ap (λ (y : Array). y.tick) (ticked_made x k (record { order = goes.order; few = goes.few; room = omega (arith, goes.room) }))

    pub goes_next : GoesOn (ticked k x) 1
    goes_next =
        rw (ticked_made x k (record { order = goes.order; few = goes.few; room = omega (arith, goes.room) }))
        (record { order = goes.order; few = goes.few; room = omega (arith, goes.room) })

-- the array before a loop over ticks, and after one tick more
module _ (x : Array) where
  pub ticked_none : x ≡ ticked (x.tick - x.tick) x
  ticked_none = let a : x.tick - x.tick ≡ 0 = omega arith in rw a (unfold ticked in refl)

  pub ticked_next : (t : ℕ) {y z : Array} → x.tick ≤ t → y ≡ ticked (t - x.tick) x → z ≡ next_array y → z ≡ ticked (t + 1 - x.tick) x
  ticked_next t h e f = let a : t + 1 - x.tick ≡ suc (t - x.tick) = omega arith in rw a (unfold ticked in (f ∙ ap next_array e))
