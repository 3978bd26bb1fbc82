-- What a tick answers, by the tests of the code. Assumes nothing.
use Prim.Native.Nat.{ℕ, ◌+◌, ◌-◌, ◌≤◌, ◌<◌}
use mathlib.Core.Path.{◌≡◌, refl, sym}
use mathlib.Core.List.{List}
use mathlib.Core.Bool.{Bool, true, false, cond}
use native.Mathlib.Omega.{arith}
use borrow.Author.Tests.{lt-ltb, le-ltb, ltb-true}
use lib.Dec.{ltb}
use Rattle.refusal.specs.Answers.{Answered, given, refused, giving}
use Rattle.sizes.specs.Sizes.{is_order, most_sweeps, ticks_of, sizes_answer}
use Rattle.sizes.proofs.Orders.{sizes_fine, sizes_given}
use Rattle.tile_schedule.specs.Answers.{Tick, made, stopped, progress_of, left_of}

module _ (n sweeps t : ℕ) where
  pub tick_refused : {k : ℕ} {values : List ℕ} → refused k values ≡ sizes_answer n sweeps → refused k values ≡ progress_of n sweeps t
  unfolding progress_of
  tick_refused e = rw (← e)

  module _ (order : is_order n ≡ true) (few : sweeps ≤ most_sweeps) where
    pub is_made : t < ticks_of n sweeps → given made ≡ progress_of n sweeps t
    unfolding progress_of
    is_made h = rw (← (sizes_fine n sweeps order few), lt-ltb t (ticks_of n sweeps) h)

    pub is_stopped : ticks_of n sweeps ≤ t → given stopped ≡ progress_of n sweeps t
    unfolding progress_of
    is_stopped h = rw (← (sizes_fine n sweeps order few), le-ltb t (ticks_of n sweeps) h)

-- what is known where a tick is made
pub record Means (n sweeps t : ℕ) : Type 0 where
  pub order : is_order n ≡ true
  pub few : sweeps ≤ most_sweeps
  pub before_end : t < ticks_of n sweeps

pub made_means : (n sweeps t : ℕ) → given made ≡ progress_of n sweeps t → Means n sweeps t
unfolding progress_of
made_means n sweeps t e = go (sizes_answer n sweeps) (ltb t (ticks_of n sweeps)) refl refl (sym e)
  where
    go : (a : Answered Unit) (b : Bool) → sizes_answer n sweeps ≡ a → ltb t (ticks_of n sweeps) ≡ b
        → giving (cond b made stopped) a ≡ given made → Means n sweeps t
    go (refused k values) b x y e = cc
    go (given tt) false x y e = cc
    go (given tt) true x y e = let w = sizes_given n sweeps x in record { order = w.0; few = w.1; before_end = ltb-true _ _ y }

-- ---- how many are left
-- what is known where one is
pub record Ahead (n sweeps t : ℕ) : Type 0 where
  pub order : is_order n ≡ true
  pub few : sweeps ≤ most_sweeps
  pub end : t + left_of n sweeps t ≡ ticks_of n sweeps

module _ (n sweeps t : ℕ) where
  pub left_made : given made ≡ progress_of n sweeps t → ticks_of n sweeps - t ≡ left_of n sweeps t
  unfolding left_of
  left_made e = rw (← e)

  pub left_stopped : given stopped ≡ progress_of n sweeps t → 0 ≡ left_of n sweeps t
  unfolding left_of
  left_stopped e = rw (← e)

  pub left_refused : {k : ℕ} {values : List ℕ} → refused k values ≡ progress_of n sweeps t → 0 ≡ left_of n sweeps t
  unfolding left_of
  left_refused e = rw (← e)

  pub ahead : ¬ (left_of n sweeps t ≡ 0) → Ahead n sweeps t
  ahead h = go (progress_of n sweeps t) refl
    where
      go : (p : Answered Tick) → p ≡ progress_of n sweeps t → Ahead n sweeps t
      go (given made) e = let w = made_means n sweeps t e in record { order = w.order; few = w.few; end = grind (arith, left_made e, w.before_end) }
      go (given stopped) e = absurd (h (sym (left_stopped e)))
      go (refused k values) e = absurd (h (sym (left_refused e)))

  -- the next tick is not made where none is left
  pub none_left : left_of n sweeps t ≡ 0 → ¬ (given made ≡ progress_of n sweeps t)
  none_left h e = let w = (made_means n sweeps t e).before_end in let z = left_made e in omega arith
