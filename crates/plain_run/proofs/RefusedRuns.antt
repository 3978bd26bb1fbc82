-- What a run answers, and what one that is refused leaves. Assumes nothing.
use Prim.Native.Nat.{ℕ}
use mathlib.Core.Path.{◌≡◌, refl, sym, ◌∙◌}
use mathlib.Core.Bool.{Bool, true, false, cond}
use mathlib.Core.List.{List, [], ◌∷◌, ◌++◌}
use native.Mathlib.Omega.{arith}
use lib.ListN.{length}
use lib.Ieee.{Float}
use Rattle.refusal.specs.declared.Refusal.TheVariants.{Spoiled}
use Rattle.refusal.specs.Answers.{Answered, given, refused, refused_by, or_else, unless_refused, row, table}
use Rattle.refusal.proofs.FirstRefusal.{refused_given, table_joined}
use Rattle.refusal.proofs.RefusedOutcomes.{same_number}
use Rattle.sizes.specs.Sizes.{steps_of}
use Rattle.matrix.specs.Matrix.{flat}
use Rattle.runs.specs.State.{start_of, zeros}
use Rattle.runs.specs.Outcome.{run_rows, before_run, Outcome, outcome, results_kept}
use Rattle.runs.proofs.EarlyRefusals.{before_below_8}
use Rattle.plain_run.specs.State.{after, spoiled}
use Rattle.plain_run.specs.Run.{ran_of, run_of}

module _ (n sweeps : ℕ) (l r v : List Float) where
  -- by what is refused before the run, and by whether it is spoiled
  abbrev outcome_by : Answered Unit → Bool → Outcome Unit
  outcome_by a b =
      unless_refused a
      (cond b (outcome (refused_by Spoiled) (zeros n) (zeros n))
      (outcome (given tt) (flat n (after n (steps_of n sweeps) (start_of n l)).matrix) (flat n (after n (steps_of n sweeps) (start_of n l)).vectors)))
      (results_kept r v)

  pub run_answers : (run_of n sweeps l r v).answer
      ≡ table (run_rows n sweeps l (length r) (length v) ++ row (spoiled n (steps_of n sweeps) (start_of n l)) Spoiled ∷ [])
  unfolding run_of ran_of before_run
  run_answers =
      go (table (run_rows n sweeps l (length r) (length v))) (spoiled n (steps_of n sweeps) (start_of n l))
      ∙ sym (table_joined (run_rows n sweeps l (length r) (length v)) (row (spoiled n (steps_of n sweeps) (start_of n l)) Spoiled ∷ []))
    where
      go : (a : Answered Unit) (b : Bool) → (outcome_by a b).answer ≡ or_else a (table (row b Spoiled ∷ []))
      go (given x) true = refl
      go (given x) false = refl
      go (refused k values) b = refl

  pub run_kept : (k : ℕ) (values : List ℕ) → (run_of n sweeps l r v).answer ≡ refused k values → ¬ (k ≡ 8)
      → ((run_of n sweeps l r v).result ≡ r) × ((run_of n sweeps l r v).vectors ≡ v)
  unfolding run_of ran_of
  run_kept k values e h = go (before_run n sweeps l (length r) (length v)) (spoiled n (steps_of n sweeps) (start_of n l)) e
    where
      go : (a : Answered Unit) (b : Bool) → (outcome_by a b).answer ≡ refused k values → ((outcome_by a b).result ≡ r) × ((outcome_by a b).vectors ≡ v)
      go (given x) true e = absurd (h (sym (same_number e)))
      go (given x) false e = refused_given (sym e)
      go (refused i ys) b e = (refl, refl)

  pub run_zeroed : (values : List ℕ) → (run_of n sweeps l r v).answer ≡ refused 8 values
      → ((run_of n sweeps l r v).result ≡ zeros n) × ((run_of n sweeps l r v).vectors ≡ zeros n)
  unfolding run_of ran_of
  run_zeroed values e = go (before_run n sweeps l (length r) (length v)) (spoiled n (steps_of n sweeps) (start_of n l)) refl e
    where
      go : (a : Answered Unit) (b : Bool) → before_run n sweeps l (length r) (length v) ≡ a → (outcome_by a b).answer ≡ refused 8 values
          → ((outcome_by a b).result ≡ zeros n) × ((outcome_by a b).vectors ≡ zeros n)
      go (given x) true z e = (refl, refl)
      go (given x) false z e = refused_given (sym e)
      go (refused i ys) b z e = absurd (omega (arith, before_below_8 n l sweeps (length r) (length v) z, same_number e))
