-- A whole run, refused or not. Assumes nothing.
use Prim.Native.Nat.{ℕ, zero, suc}
use mathlib.Core.Path.{◌≡◌, refl, ◌∙◌}
use mathlib.Core.Bool.{Bool, true, false, cond, ◌&&◌}
use mathlib.Core.List.{List}
use lib.ListN.{length}
use lib.Ieee.{Float}
use Rattle.refusal.specs.Answers.{Answered, given, refused}
use Rattle.sizes.specs.Sizes.{processors_of, ticks_of}
use Rattle.runs.specs.Outcome.{before_run, Outcome, outcome}
use Rattle.tile_schedule.specs.Answers.{Tick, made, stopped, progress_of}
use Rattle.array.specs.declared.Array.{Array}
use Rattle.array.specs.Arrays.{array_of}
use Rattle.array.specs.Runs.{start_array}
use Rattle.array_run.specs.Results.{WholeReport, handed_over}
use Rattle.array_run.specs.Advance.{ends_sweep, sweep_ended, none_counted, with_sweeps, lowered, advanced_as, advanced, advanced_by}
use Rattle.array_run.specs.Whole.{final_array, whole_of}

-- ---- a refused run, and one that is not
module _ (n sweeps : ℕ) (l r v : List Float) where
  pub whole_refused : {k : ℕ} {values : List ℕ} → refused k values ≡ before_run n sweeps l (length r) (length v)
      → outcome (refused k values) r v ≡ whole_of n sweeps l r v
  unfolding whole_of
  whole_refused e = rw (← e)

  pub whole_accepted : {o : Outcome WholeReport} → given tt ≡ before_run n sweeps l (length r) (length v)
      → o ≡ handed_over (final_array n sweeps l) → o ≡ whole_of n sweeps l r v
  unfolding whole_of
  whole_accepted e f = rw (← e) f

-- ---- its array at the end
low_order : (t : ℕ) (x : Array) → (lowered t x).n ≡ x.n
unfolding lowered
low_order t x = go (ends_sweep x.n x.sweeps t && none_counted (processors_of x.n) x.tiles)
  where
    go : (b : Bool) → (cond b (with_sweeps (sweep_ended x.n t) x) x).n ≡ x.n
    go true = refl
    go false = refl

order_stays : (a : Answered Tick) (x : Array) → (advanced_as a x).n ≡ x.n
order_stays (given made) x = low_order x.tick (array_of (given made) x)
order_stays (given stopped) x = refl
order_stays (refused k values) x = refl

pub advanced_order : (k : ℕ) (x : Array) → (advanced_by k x).n ≡ x.n
unfolding advanced_by advanced
advanced_order zero x = refl
advanced_order (suc k) x = let y = advanced_by k x in order_stays (progress_of y.n y.sweeps y.tick) y ∙ advanced_order k x

pub final_order : (n sweeps : ℕ) (l : List Float) → (final_array n sweeps l).n ≡ n
final_order n sweeps l = advanced_order (ticks_of n sweeps) (start_array n sweeps l) ∙ unfold start_array in refl

-- the start that the code makes
module _ (n sweeps : ℕ) (l : List Float) {x : Array} (e : x ≡ start_array n sweeps l) where
  pub starts_at : x.tick ≡ 0
  starts_at = rw e (unfold start_array in refl)

  pub final_from : {z : Array} → z ≡ advanced_by (ticks_of x.n x.sweeps) x → z ≡ final_array n sweeps l
  final_from h = h ∙ rw e (unfold start_array in refl)
