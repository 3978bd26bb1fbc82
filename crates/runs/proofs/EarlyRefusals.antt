-- A run is not refused by 8 before it begins. Assumes nothing.
use Prim.Native.Nat.{ℕ, zero, suc, ◌<◌}
use mathlib.Core.Path.{◌≡◌, sym, subst}
use mathlib.Core.Bool.{Bool, true, false, not, cond, ◌&&◌}
use mathlib.Core.List.{List}
use native.Mathlib.Omega.{arith}
use lib.Dec.{ltb}
use lib.ListN.{length}
use lib.Ieee.{Float}
use Rattle.refusal.specs.Answers.{Answered, given, refused, or_else, first}
use Rattle.refusal.proofs.FirstRefusal.{refused_given}
use Rattle.refusal.proofs.RefusedOutcomes.{same_number}
use Rattle.float64.specs.Values.{finite, same_bits}
use Rattle.sizes.specs.Sizes.{is_order, most_sweeps}
use Rattle.matrix.specs.Matrix.{at}
use Rattle.matrix.specs.Entries.{not_finite_at, not_mirrored_at, finite_row, mirror_row, is_square}
use Rattle.runs.specs.Outcome.{before_run}

data Early : Answered Unit → Type 0 where
  accepts : Early (given tt)
  refuses : {k : ℕ} {values : List ℕ} → k < 8 → Early (refused k values)

either : (b : Bool) {x y : Answered Unit} → Early x → Early y → Early (cond b x y)
either true e f = e
either false e f = f

both : {x y : Answered Unit} → Early x → Early y → Early (or_else x y)
both accepts f = f
both (refuses h) f = refuses h

each : (n : ℕ) {g : ℕ → Answered Unit} → ((k : ℕ) → Early (g k)) → Early (first n g)
unfolding first
each zero e = accepts
each (suc n) e = both (each n e) (e (suc n))

below_8 : {t : Answered Unit} → Early t → (k : ℕ) (values : List ℕ) → t ≡ refused k values → k < 8
below_8 accepts k values e = refused_given (sym e)
below_8 (refuses h) k values e = subst (λ (i : ℕ). i < 8) (same_number e) h

module _ (n : ℕ) (l : List Float) where
  finite_early : (r c : ℕ) → Early (not_finite_at n l r c)
  unfolding not_finite_at
  finite_early r c = either (finite (at n l r c)) accepts (refuses (omega arith))

  mirror_early : (r c : ℕ) → Early (not_mirrored_at n l r c)
  unfolding not_mirrored_at
  mirror_early r c = either (ltb r c) (either (same_bits (at n l r c) (at n l c r)) accepts (refuses (omega arith))) accepts

  before_early : (sweeps lr lv : ℕ) → Early (before_run n sweeps l lr lv)
  unfolding before_run finite_row mirror_row
  before_early sweeps lr lv =
      both (either (not (is_order n)) (refuses (omega arith)) accepts)
      (both (either (ltb most_sweeps sweeps) (refuses (omega arith)) accepts)
      (both (either (not (is_square n lr && (is_square n lv && is_square n (length l)))) (refuses (omega arith)) accepts)
      (both (each n (λ r. each n (finite_early r))) (both (each n (λ r. each n (mirror_early r))) accepts))))

  pub before_below_8 : (sweeps lr lv : ℕ) {k : ℕ} {values : List ℕ} → before_run n sweeps l lr lv ≡ refused k values → k < 8
  before_below_8 sweeps lr lv {k} {values} = below_8 (before_early sweeps lr lv) k values
