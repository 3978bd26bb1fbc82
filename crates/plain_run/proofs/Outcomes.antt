-- From the parts of a run to its outcome. Assumes nothing.
use Prim.Native.Nat.{ℕ, ◌+◌, ◌-◌, ◌*◌, ◌/◌, ◌%◌, ◌<◌}
use mathlib.Core.Path.{◌≡◌, refl, sym, ap, ◌∙◌}
use mathlib.Core.Bool.{true, false, not, ◌||◌}
use mathlib.Core.List.{List}
use native.Mathlib.Omega.{arith}
use native.Mathlib.Nat.{div-add-mod'}
use borrow.Author.Tests.{not-false}
use lib.Arith.{digits_lt}
use lib.Dec.{T}
use lib.ListN.{length, get_or}
use lib.Ieee.{Float, nan, binary64, fits}
use Rattle.refusal.specs.Answers.{given, refused}
use Rattle.float64.specs.Values.{finite}
use Rattle.lists.specs.Bounded.{any}
use Rattle.lists.proofs.Bounded.{or_false, false_or, same_bool, any_to, any_from}
use Rattle.sizes.specs.Sizes.{steps_of}
use Rattle.matrix.specs.Matrix.{at, flat}
use Rattle.matrix.specs.Transposed.{transposed_in}
use Rattle.matrix.proofs.Flat.{row_lt, column_lt, at_offset, flat_length, at_flat}
use Rattle.matrix.proofs.Transposition.{transposed_again}
use Rattle.matrix.proofs.SameEntries.{Finite, read_again, flat_same, flat_again}
use Rattle.runs.specs.State.{State, identity, start_of}
use Rattle.plain_pair.specs.Pair.{state_of, Held}
use Rattle.plain_pair.proofs.AlikeStates.{held_alike}
use Rattle.plain_run.specs.State.{after, not_finite_from, spoiled}
use Rattle.runs.specs.Outcome.{before_run, Outcome, outcome, Report, report, answering}
use Rattle.plain_run.specs.Run.{some_not_finite, finish_of, ran_of, run_of}
use Rattle.plain_run.specs.Quiet.{sweeps_made, report_of, answered_run_of}
use Rattle.runs.proofs.Verdicts.{Begins, begins}
use Rattle.plain_run.proofs.HeldStates.{after_alike}
use Rattle.plain_run.proofs.FiniteLines.{finite_state, state_finite}
use Rattle.plain_run.proofs.VanishingLine.{spoiled_at_end}
use Rattle.plain_run.proofs.RunStart.{real_entries, start_vanishes, start_alike, start_finite, start_mirrored}
use Rattle.plain_run.proofs.SweepsMade.{ran_made, report_sweeps}
use Rattle.plain_run.proofs.CountedPairs.{report_alike}

-- ---- the two lists at the end
module _ (n : ℕ) where
  finite_of_list : (A : ℕ → ℕ → Float) (l : List Float) → l ≡ flat n A → length l ≡ n * n → some_not_finite l ≡ false → Finite n A
  finite_of_list A l e long f r c hr hc =
      rw (← (read_again n A r c hr hc), ← e)
      (not-false _ (unfold some_not_finite at in (any_to (length l) _ f ((r - 1) * n + (c - 1)) inside)))
    where
      inside : (r - 1) * n + (c - 1) < length l
      inside = rw long (digits_lt {q = r - 1} {m = n} {r = c - 1} {c = n} (omega arith) (omega arith))

  list_of_finite : (A : ℕ → ℕ → Float) (l : List Float) → l ≡ flat n A → length l ≡ n * n → Finite n A → some_not_finite l ≡ false
  list_of_finite A l e long f =
      unfold some_not_finite in (any_from (length l) _ (λ k h. ap not (each k (rw long at h))))
    where
      entry_finite : (k : ℕ) → k < n * n → finite (A (k / n + 1) (k % n + 1)) ≡ true
      entry_finite k h =
          let a = row_lt n k h in
          let b = column_lt n k h in
          f (k / n + 1) (k % n + 1) (omega arith, omega arith) (omega arith, omega arith)

      each : (k : ℕ) → k < n * n → finite (get_or l k nan) ≡ true
      each k h =
          ap (λ (i : ℕ). finite (get_or l i nan)) (sym (div-add-mod' k n)) ∙ ap finite (sym (at_offset n l (k / n) (k % n)))
          ∙ ap (λ (l : List Float). finite (at n l (k / n + 1) (k % n + 1))) e ∙ ap finite (at_flat n A (k / n) (k % n) (row_lt n k h) (column_lt n k h))
          ∙ entry_finite k h

  pub lists_finite : (l e : List Float) (X : State) → l ≡ flat n X.matrix → e ≡ flat n X.vectors
      → (some_not_finite l || some_not_finite e) ≡ not_finite_from 1 n X
  lists_finite l e X h g = same_bool _ _ to from
    where
      long : (length l ≡ n * n) × (length e ≡ n * n)
      long = (ap length h ∙ flat_length n _, ap length g ∙ flat_length n _)

      to : (some_not_finite l || some_not_finite e) ≡ false → not_finite_from 1 n X ≡ false
      to f =
          let o = or_false _ _ f in
          state_finite n X
          (record { finite_matrix = finite_of_list X.matrix l h long.0 o.0; finite_vectors = finite_of_list X.vectors e g long.1 o.1 })

      from : not_finite_from 1 n X ≡ false → (some_not_finite l || some_not_finite e) ≡ false
      from f =
          let o = finite_state n X f in
          false_or _ _ (list_of_finite X.matrix l h long.0 o.finite_matrix) (list_of_finite X.vectors e g long.1 o.finite_vectors)

-- ---- the outcome
module _ (n sweeps : ℕ) (l : List Float) (fitting : (k : ℕ) → T (fits binary64 (get_or l k nan))) (lr lv : ℕ) (b : Begins n sweeps l lr lv) where
  -- m sweeps are the start, the steps, the eigenvectors as columns, and the end
  ran_of_lem : (m : ℕ) (l₀ e₀ l₁ e₁ : List Float) → l₀ ≡ l → e₀ ≡ flat n identity → Held n l₁ e₁ (after n (steps_of n m) (state_of n l₀ e₀))
      → finish_of n l₁ (transposed_in n e₁) ≡ ran_of n m l
  unfolding finish_of ran_of
  ran_of_lem m l₀ e₀ l₁ e₁ z y h =
      let K = steps_of n m in
      let X = start_of n l in
      let held : Held n l₁ e₁ (after n K X) = held_alike n l₁ e₁ _ _ (rw z at h) (after_alike n b.order K _ _ (start_alike n l e₀ y)) in
      let columns : transposed_in n e₁ ≡ flat n (after n K X).vectors = transposed_again n _ held.vectors_held refl in
      let s : (some_not_finite l₁ || some_not_finite (transposed_in n e₁)) ≡ spoiled n K X =
      lists_finite n l₁ _ _ held.matrix_held columns
      ∙ sym (spoiled_at_end n b.order X (start_mirrored n l fitting b.entries) (start_vanishes n l) (start_finite n l fitting b.entries) K) in
      rw (← s, ← held.matrix_held, ← columns)

  -- the sweeps made leave what all sweeps leave
  all_made : {o : Outcome Unit} (made rounded : ℕ) (l₀ e₀ l₁ e₁ : List Float) → l₀ ≡ l → e₀ ≡ flat n identity
      → report made rounded ≡ report_of n sweeps (state_of n l₀ e₀) → Held n l₁ e₁ (after n (steps_of n made) (state_of n l₀ e₀))
      → o ≡ finish_of n l₁ (transposed_in n e₁)
      → answering (report made rounded) o ≡ answering (report_of n sweeps (start_of n l)) (ran_of n sweeps l)
  all_made made rounded l₀ e₀ l₁ e₁ z y told h f =
      let all : report made rounded ≡ report_of n sweeps (start_of n l) =
      told ∙ ap (λ (k : List Float). report_of n sweeps (state_of n k e₀)) z ∙ report_alike n b.order _ _ (start_alike n l e₀ y) sweeps in
      let m : made ≡ sweeps_made n sweeps (start_of n l) = ap (λ (r : Report). r.sweeps) all ∙ report_sweeps n sweeps (start_of n l) in
      ap (answering (report made rounded)) (f ∙ ran_of_lem made l₀ e₀ l₁ e₁ z y h ∙ ap (λ (k : ℕ). ran_of n k l) m ∙ sym (ran_made n sweeps l b.order))
      ∙ ap (λ (r : Report). answering r (ran_of n sweeps l)) all

-- no sweeps: the matrix as lent, and the identity
pub no_sweeps : (n : ℕ) (l : List Float) → length l ≡ n * n → ran_of n 0 l ≡ outcome (given tt) l (flat n identity)
unfolding ran_of spoiled any after start_of
no_sweeps n l long =
    let z : steps_of n 0 ≡ 0 = omega arith in
    rw (z, flat_same n _ _ (real_entries n (at n l)), flat_same n _ _ (real_entries n identity), ← (flat_again n l long))

-- ---- a refused run, and one that is not
module _ (n sweeps : ℕ) (l r v : List Float) where
  pub run_refused : {k : ℕ} {values : List ℕ} → refused k values ≡ before_run n sweeps l (length r) (length v)
      → outcome (refused k values) r v ≡ answered_run_of n sweeps l r v
  unfolding answered_run_of run_of
  run_refused e = rw (← e)

  pub run_made : ((k : ℕ) → T (fits binary64 (get_or l k nan))) → given tt ≡ before_run n sweeps l (length r) (length v) → {o : Outcome Unit}
      (made rounded : ℕ) (l₀ e₀ l₁ e₁ : List Float) → l₀ ≡ l → e₀ ≡ flat n identity → report made rounded ≡ report_of n sweeps (state_of n l₀ e₀)
      → Held n l₁ e₁ (after n (steps_of n made) (state_of n l₀ e₀)) → o ≡ finish_of n l₁ (transposed_in n e₁)
      → answering (report made rounded) o ≡ answered_run_of n sweeps l r v
  unfolding answered_run_of run_of
  run_made fitting e made rounded l₀ e₀ l₁ e₁ z y told h f =
      rw (← e) (all_made n sweeps l fitting _ _ (begins n sweeps l _ _ (sym e)) made rounded l₀ e₀ l₁ e₁ z y told h f)
