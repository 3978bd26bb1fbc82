-- Where no tick is made the array stays, and ticks after the last change nothing. Assumes nothing.
use Prim.Native.Nat.{ℕ, zero, suc, ◌+◌, ◌-◌, min, ◌≤◌, ◌<◌}
use mathlib.Core.Bool.{Bool, true, false}
use borrow.Author.Tests.{leb-true, leb-false}
use lib.Dec.{leb}
use mathlib.Core.Path.{◌≡◌, refl, sym, ap, ◌∙◌}
use native.Mathlib.Nat.{zero-add, suc-add}
use native.Mathlib.Omega.{arith}
use Rattle.refusal.specs.Answers.{Answered, given, refused}
use Rattle.tile_schedule.specs.Answers.{Tick, made, stopped, progress_of, left_of}
use Rattle.sizes.specs.Sizes.{ticks_of}
use Rattle.tile_schedule.proofs.Answers.{is_stopped, Ahead, ahead, none_left}
use Rattle.array.specs.declared.Array.{Array}
use Rattle.array.specs.Arrays.{array_of}
use Rattle.array.specs.Runs.{next_array, ticked, GoesOn}
use Rattle.array.proofs.TicksInARow.{ticked_made}

module _ (x : Array) where
  -- a record that one tick leaves as it is
  ticked_same : next_array x ≡ x → (k : ℕ) → ticked k x ≡ x
  unfolding ticked
  ticked_same e zero = refl
  ticked_same e (suc k) = ap next_array (ticked_same e k) ∙ e

  -- ticks after the last
  pub ended_stays : (j k : ℕ) → GoesOn x k → x.tick + k ≡ ticks_of x.n x.sweeps → ticked (j + k) x ≡ ticked k x
  unfolding ticked
  ended_stays zero k g e = rw zero-add
  ended_stays (suc j) k g e = rw suc-add (ap next_array (ended_stays j k g e) ∙ stays)
    where
      stays : next_array (ticked k x) ≡ ticked k x
      stays = rw (ticked_made x k g) (unfold next_array in (rw (← (is_stopped x.n x.sweeps (x.tick + k) g.order g.few (omega arith)))))

  -- so many ticks are left
  module _ {left : ℕ} (is-left : left ≡ left_of x.n x.sweeps x.tick) where
    pub none_made : (k : ℕ) → left ≡ 0 → x ≡ ticked k x
    none_made k h = sym (ticked_same next_same k)
      where
        go : (t : Answered Tick) → t ≡ progress_of x.n x.sweeps x.tick → array_of t x ≡ x
        go (given made) e = absurd (none_left x.n x.sweeps x.tick (sym is-left ∙ h) e)
        go (given stopped) e = refl
        go (refused k values) e = refl

        next_same : next_array x ≡ x
        next_same = unfold next_array in (go (progress_of x.n x.sweeps x.tick) refl)

    module _ (some : ¬ (left ≡ 0)) where
      ahead_here : Ahead x.n x.sweeps x.tick
      ahead_here = ahead x.n x.sweeps x.tick (λ z. some (is-left ∙ z))

      pub goes_on : (k : ℕ) → k ≤ left → GoesOn x k
      goes_on k h = record { order = ahead_here.order; few = ahead_here.few; room = omega (arith, is-left, ahead_here.end) }

      pub all_left : (k : ℕ) → left ≤ k → ticked left x ≡ ticked k x
      all_left k h =
          let e : k - left + left ≡ k = omega arith in
          sym (rw e at (ended_stays (k - left) left (goes_on left (omega arith)) (omega (arith, is-left, ahead_here.end))))

      pub at_most_left : (k : ℕ) {m : ℕ} {y : Array} → m ≡ min k left → y ≡ ticked m x → y ≡ ticked k x
      at_most_left k {m} e f = f ∙ go (leb k left) refl
        where
          go : (b : Bool) → leb k left ≡ b → ticked m x ≡ ticked k x
          go true z = let w : k ≤ left = leb-true _ _ z in let same : m ≡ k = omega arith in rw same
          go false z = let w : left < k = leb-false _ _ z in let same : m ≡ left = omega arith in rw same (all_left k (omega arith))
