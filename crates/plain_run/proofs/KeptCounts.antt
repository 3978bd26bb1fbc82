-- What a processor keeps, by the theory, is its turns in the current sweep and its rounded pairs so far. Assumes nothing.
use Prim.Native.Nat.{ℕ, zero, suc, ◌+◌, ◌-◌, ◌*◌, ◌≤◌, ◌<◌}
use mathlib.Core.Path.{◌≡◌, refl, sym, ap, ◌∙◌, fun_ext}
use mathlib.Core.Bool.{Bool, true, false, not, cond, ◌&&◌}
use native.Mathlib.Nat.{add-suc}
use native.Mathlib.Omega.{arith}
use borrow.Author.Tests.{eq-eqb, ne_eqb}
use lib.Dec.{eqb, ltb}
use Rattle.lists.specs.Bounded.{count, any}
use Rattle.lists.proofs.Bounded.{same_bool, any_to, any_from, count_any, count_most}
use Rattle.systolic.specs.Slots.{ordered_line}
use Rattle.systolic.specs.Sequential.{sequential_kept}
use Rattle.sizes.specs.Sizes.{most_counted, is_order, processors_of, sweep_steps, first_line}
use Rattle.sizes.proofs.Orders.{few_steps}
use Rattle.rotation.specs.declared.Parameters.{Parameters}
use Rattle.rotation.specs.declared.Found.{Found}
use Rattle.runs.specs.State.{State}
use Rattle.runs.specs.declared.Counts.{Counts}
use Rattle.runs.specs.Counts.{is_turn, counted, begins_sweep, turns_after, rounded_after, counts, counts_after}
use Rattle.runs.specs.Cells.{cell_of, Setting, rules}
use Rattle.runs.proofs.ProcessorCounts.{counts_one, counts_anew, counts_on, begins_at}
use Rattle.plain_run.specs.Met.{pair_met, turns_in, rounded_in, turns_from, rounded_of}
use Rattle.plain_run.specs.Quiet.{quiet}
use Rattle.plain_run.proofs.Sequence.{found_are}
use Rattle.plain_run.proofs.RoundedPairs.{rounded_few}

not_not : (b : Bool) → not (not b) ≡ b
not_not true = refl
not_not false = refl

module _ (S : Setting) (order : is_order S.order ≡ true) (X : State) where
  abbrev n : ℕ
  n = S.order

  abbrev kept : ℕ → ℕ → Counts
  kept k i = sequential_kept (rules S) (ordered_line (first_line n)) (processors_of n - 1) (cell_of X) (counts 0 0) k i

  kept_next : (k i : ℕ) → i < processors_of n → kept (suc k) i ≡ counts_after n k (pair_met n k i X) (kept k i)
  unfolding sequential_kept rules
  kept_next k i l = ap (λ (f : Found). counts_after n k f (kept k i)) (found_are S order X k i l)

  turns_next : (k i : ℕ) → i < processors_of n → (kept (suc k) i).turns ≡ turns_after n k (pair_met n k i X).parameters (kept k i).turns
  turns_next k i l = ap (λ (d : Counts). d.turns) (kept_next k i l)

  rounded_next : (k i : ℕ) → i < processors_of n → (kept (suc k) i).rounded ≡ rounded_after (pair_met n k i X).exact (kept k i).rounded
  rounded_next k i l = ap (λ (d : Counts). d.rounded) (kept_next k i l)

  turns_within : (z k i : ℕ) → turns_from n z k i X ≤ k
  unfolding turns_from
  turns_within z k i = count_most (λ s. turns_in n (z + s) i X) k refl

  -- the turns after s + 1 steps of sweep j + 1
  pub kept_turns : (j s i : ℕ) → i < processors_of n → s < sweep_steps n
      → (kept (suc (j * sweep_steps n + s)) i).turns ≡ turns_from n (j * sweep_steps n) (suc s) i X
  unfolding turns_from count turns_in
  kept_turns j zero i l h =
      let k = j * sweep_steps n + 0 in
      let P = (pair_met n k i X).parameters in
      turns_next k i l
      ∙ sym (counts_anew P n k (kept k i).turns (begins_at n j 0 h ∙ eq-eqb 0 0 refl) refl)
      ∙ counts_one (is_turn P) 0 (omega arith)
  kept_turns j (suc s) i l h =
      let z = j * sweep_steps n in
      let k = z + suc s in
      let P = (pair_met n k i X).parameters in
      let before : k ≡ suc (z + s) = add-suc z s in
      let few : turns_from n z (suc s) i X ≤ suc s = turns_within z (suc s) i in
      let most = few_steps n order in
      turns_next k i l
      ∙ sym (counts_on P n k (kept k i).turns (begins_at n j (suc s) h ∙ ne_eqb (suc s) 0 (λ e. omega arith)) refl)
      ∙ ap (counted (is_turn P)) (ap (λ (m : ℕ). (kept m i).turns) before ∙ kept_turns j s i l (omega arith))
      ∙ counts_one (is_turn P) (turns_from n z (suc s) i X) (omega (arith, few, most))

  -- the rounded pairs after k steps, as long as they are not too many to count
  pub kept_rounded : (k i : ℕ) → i < processors_of n → k ≤ most_counted → (kept k i).rounded ≡ rounded_of n k i X
  unfolding rounded_of count rounded_in rounded_after
  kept_rounded zero i l h = unfold sequential_kept in refl
  kept_rounded (suc k) i l h =
      let more = not (pair_met n k i X).exact in
      let few : rounded_of n k i X ≤ k = rounded_few n k X i in
      rounded_next k i l ∙ ap (counted more) (kept_rounded k i l (omega arith)) ∙ counts_one more (rounded_of n k i X) (omega (arith, few, h))

  -- no processor turns in sweep j + 1 exactly if the sweep is quiet
  pub none_turns : (j : ℕ) → not (any (processors_of n) (λ i. not (eqb (turns_from n (j * sweep_steps n) (sweep_steps n) i X) 0))) ≡ quiet n (suc j) X
  unfolding turns_from quiet
  none_turns j =
      ap not
      (ap (any (processors_of n)) (fun_ext (λ i. ap not (count_any (λ s. turns_in n (j * sweep_steps n + s) i X) (sweep_steps n)) ∙ not_not _))
      ∙ same_bool _ _
      (λ e. any_from (sweep_steps n) _ (λ s h. any_from (processors_of n) _ (λ i l. any_to (sweep_steps n) _ (any_to (processors_of n) _ e i l) s h)))
      (λ e. any_from (processors_of n) _ (λ i l. any_from (sweep_steps n) _ (λ s h. any_to (processors_of n) _ (any_to (sweep_steps n) _ e s h) i l)))
      ∙ ap (λ (z : ℕ). any (sweep_steps n) (λ s. any (processors_of n) (λ i. turns_in n (z * sweep_steps n + s) i X))) (omega arith))

  -- ---- never more turns than steps
  counted_few : (more : Bool) (d : ℕ) → counted more d ≤ d + 1
  unfolding counted
  counted_few more d = go (more && ltb d most_counted)
    where
      go : (b : Bool) → cond b (d + 1) d ≤ d + 1
      go true = omega arith
      go false = omega arith

  turns_step : (k d : ℕ) (P : Parameters) → turns_after n k P d ≤ d + 1
  unfolding turns_after
  turns_step k d P = go (begins_sweep n k)
    where
      go : (b : Bool) → counted (is_turn P) (cond b 0 d) ≤ d + 1
      go true = omega (arith, counted_few (is_turn P) 0)
      go false = counted_few (is_turn P) d

  pub turns_few : (k i : ℕ) → i < processors_of n → (kept k i).turns ≤ k
  turns_few zero i l = unfold sequential_kept in (omega arith)
  turns_few (suc k) i l = omega (arith, turns_next k i l, turns_step k (kept k i).turns (pair_met n k i X).parameters, turns_few k i l)
