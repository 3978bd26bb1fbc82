-- What the tiles on the diagonal count in a run, after any number of ticks. Assumes nothing.
use Prim.Native.Nat.{ℕ, suc, ◌+◌, ◌-◌, ◌*◌, ◌/◌, ◌<◌, ◌≤◌}
use mathlib.Core.Path.{◌≡◌, refl, ap, ◌∙◌}
use mathlib.Core.Bool.{Bool, true, false}
use mathlib.Core.List.{List}
use native.Mathlib.Omega.{arith}
use borrow.Author.Tests.{ltb-true, ltb-false}
use lib.Dec.{ltb}
use lib.ListN.{length}
use lib.Ieee.{Float}
use Rattle.lists.proofs.Sums.{total_below}
use Rattle.sizes.specs.Sizes.{most_sweeps, is_order, processors_of, sweep_steps, steps_of, ticks_of}
use Rattle.sizes.proofs.Orders.{steps_few}
use Rattle.runs.specs.declared.Counts.{Counts}
use Rattle.runs.specs.State.{State, start_of}
use Rattle.runs.specs.Cells.{setting}
use Rattle.plain_run.specs.Met.{turns_from, rounded_of, rounded_by}
use Rattle.plain_run.proofs.KeptCounts.{kept_turns, kept_rounded, turns_few}
use Rattle.plain_run.proofs.RoundedPairs.{rounded_sum, rounded_few}
use Rattle.array.specs.declared.Array.{Array}
use Rattle.array.specs.Arrays.{tile_at}
use Rattle.array.specs.Runs.{start_array, ticked}
use Rattle.array_run.specs.Results.{rounded_pairs}
use Rattle.array_agreement.proofs.Agreement.{tiles_by, record_by, kept_after, counts_by, ticked_is, ticked_stays}

module _ (n S : ℕ) (l : List Float) (order : is_order n ≡ true) (few : S ≤ most_sweeps) (long : length l ≡ n * n) where
  abbrev X : State
  X = start_of n l

  abbrev start : Array
  start = start_array n S l

  abbrev N : ℕ
  N = processors_of n

  -- after t ticks the tile of processor i + 1 has made z of its rotations and no more
  abbrev pub Rotated : ℕ → ℕ → Type 0
  Rotated z t = (z ≤ steps_of n S) × (3 * z < t + 3) × (z < steps_of n S → t ≤ 3 * z)

  by_record : (t i : ℕ) → (tile_at (record_by n S l order few long t).tiles i i).counts ≡ (tile_at (tiles_by n S l order few long t) i i).counts
  by_record t i = unfold record_by in refl

  -- a tick after the last changes nothing
  counts_after_lem : (z i t : ℕ) → i < N → Rotated z t → (tile_at (ticked t start).tiles i i).counts ≡ kept_after n S l order few long z i
  counts_after_lem z i t hi w = go (ltb (ticks_of n S) t) refl
    where
      go : (b : Bool) → ltb (ticks_of n S) t ≡ b → (tile_at (ticked t start).tiles i i).counts ≡ kept_after n S l order few long z i
      go true e =
          let late : ticks_of n S < t = ltb-true _ _ e in
          let all : t ≡ t - ticks_of n S + ticks_of n S = omega arith in
          ap (λ (x : Array). (tile_at x.tiles i i).counts) (ap (λ (u : ℕ). ticked u start) all ∙ ticked_stays n S l order few long (t - ticks_of n S))
          ∙ by_record (ticks_of n S) i
          ∙ counts_by n S l order few long z i (ticks_of n S) hi w.0 (omega (arith, w.0)) (λ u. let o = w.2 u in omega (arith, o, u, late))
      go false e =
          let early : t ≤ ticks_of n S = ltb-false _ _ e in
          ap (λ (x : Array). (tile_at x.tiles i i).counts) (ticked_is n S l order few long t early)
          ∙ by_record t i
          ∙ counts_by n S l order few long z i t hi w.0 w.1 w.2

  -- the turns in the last s + 1 of its rotations, which are in sweep j + 1
  pub turns_after_lem : (j k i t : ℕ) → i < N → k < sweep_steps n → let z = suc (j * sweep_steps n + k) in
      z ≤ steps_of n S → 3 * z < t + 3 → (z < steps_of n S → t ≤ 3 * z)
      → (tile_at (ticked t start).tiles i i).counts.turns ≡ turns_from n (j * sweep_steps n) (suc k) i X
  turns_after_lem j k i t hi hk within made no_more =
      ap (λ (d : Counts). d.turns) (counts_after_lem (suc (j * sweep_steps n + k)) i t hi (within, made, no_more)) ∙ kept_turns (setting n) order X j k i hi hk

  -- its rounded pairs
  pub rounded_after_lem : (z i t : ℕ) → i < N → Rotated z t → (tile_at (ticked t start).tiles i i).counts.rounded ≡ rounded_of n z i X
  rounded_after_lem z i t hi w =
      let most = steps_few n S order few in
      ap (λ (d : Counts). d.rounded) (counts_after_lem z i t hi w) ∙ kept_rounded (setting n) order X z i hi (omega (arith, most, w.0))

  -- once all ticks are made all tiles together have counted those of the plain run
  pub rounded_ended : (t : ℕ) → ticks_of n S ≤ t → rounded_pairs N (ticked t start).tiles ≡ rounded_by n (steps_of n S) X
  unfolding rounded_pairs
  rounded_ended t h =
      total_below _ _ N (λ i hi. rounded_after_lem (steps_of n S) i t hi (omega arith, omega arith, λ u. absurd (omega arith))) ∙ rounded_sum n (steps_of n S) X

  -- ---- after any ticks some z of the rotations are made, so no count is above the steps
  rotations : (t : ℕ) → (z : ℕ) × Rotated z t
  rotations t = go (ltb (steps_of n S) ((t + 2) / 3)) refl
    where
      go : (b : Bool) → ltb (steps_of n S) ((t + 2) / 3) ≡ b → (z : ℕ) × Rotated z t
      go true e =
          let late : steps_of n S < (t + 2) / 3 = ltb-true _ _ e in
          (steps_of n S, (omega arith, omega (arith, late), λ u. absurd (omega arith)))
      go false e = let early : (t + 2) / 3 ≤ steps_of n S = ltb-false _ _ e in ((t + 2) / 3, (early, omega arith, λ u. omega arith))

  pub counts_few : (t i : ℕ) → i < N → let d = (tile_at (ticked t start).tiles i i).counts in (d.turns ≤ steps_of n S) × (d.rounded ≤ steps_of n S)
  counts_few t i hi =
      let w = rotations t in
      let z = w.0 in
      let turns = ap (λ (d : Counts). d.turns) (counts_after_lem z i t hi w.1) in (
        omega (arith, turns, turns_few (setting n) order X z i hi, w.1.0),
        omega (arith, rounded_after_lem z i t hi w.1, rounded_few n z X i, w.1.0),
      )
