-- The pairs of a run that pass a test, sweep by sweep: each sweep is the first one of a run from where it begins, and states with the same entries at
-- the lines 1 to n meet the same pairs. Assumes nothing.
use Prim.Native.Nat.{ℕ, zero, suc, ◌+◌, ◌-◌, ◌*◌, ◌≤◌, ◌<◌}
use mathlib.Core.Path.{◌≡◌, refl, sym, ap, ◌∙◌, fun_ext}
use mathlib.Core.Bool.{Bool, true, false, not}
use native.Mathlib.Nat.{add-zero, add-suc, mul-add-mod_self_right}
use native.Mathlib.Omega.{arith}
use borrow.Author.Tests.{ltb-true, ltb-false}
use lib.Dec.{eqb, ltb}
use lib.ListN.{get_or}
use Rattle.lists.specs.Bounded.{any}
use Rattle.lists.proofs.Bounded.{any_within, count_below, count_any}
use Rattle.lists.proofs.Sums.{total_below, total_any, total_parts}
use Rattle.systolic.specs.Slots.{line_at, ordered_line}
use Rattle.sizes.specs.Sizes.{is_order, processors_of, sweep_steps, first_line, still_of, steps_of}
use Rattle.ordering.specs.Registers.{registers_of}
use Rattle.ordering.specs.Pairs.{registers_at}
use Rattle.ordering.proofs.OrderRegisters.{registers_again}
use Rattle.rotation.specs.declared.Found.{Found}
use Rattle.rotation.specs.Exact.{found_of}
use Rattle.matrix_turns.specs.Turns.{found_at}
use Rattle.matrix_turns.proofs.LinePairs.{are_two, first_line_lem, second_line_lem, from_three}
use Rattle.runs.specs.State.{State}
use Rattle.runs.specs.Blocks.{ruled_found}
use Rattle.runs.proofs.LineZero.{always_found}
use Rattle.plain_pair.proofs.AlikeStates.{Alike}
use Rattle.plain_run.specs.State.{pairs_rotated, after}
use Rattle.plain_run.specs.Met.{pair_met, turns_in, rounded_in, pairs_by, turns_by}
use Rattle.plain_run.specs.Quiet.{quiet, sweeps_made, report_of}
use Rattle.plain_run.proofs.ProcessorPairs.{registers_paired, are_real}
use Rattle.plain_run.proofs.HeldStates.{pairs_alike, after_alike}

-- ---- the pairs that pass a test, by another test
module _ (n : ℕ) (test other : ℕ → ℕ → Bool) where
  pub pairs_same : (k : ℕ) → ((s i : ℕ) → i < processors_of n → test s i ≡ other s i) → pairs_by n test k ≡ pairs_by n other k
  unfolding pairs_by
  pairs_same k same = total_below _ _ k (λ s h. count_below _ _ (processors_of n) (same s))

  -- of the steps from step k on
  pub pairs_more : (k d : ℕ) → ((s i : ℕ) → i < processors_of n → test (k + s) i ≡ other s i) → pairs_by n test (k + d) ≡ pairs_by n test k + pairs_by n other d
  unfolding pairs_by
  pairs_more k d same =
      total_parts _ k d ∙ ap (λ (x : ℕ). pairs_by n test k + x) (total_below _ _ d (λ s h. count_below _ _ (processors_of n) (same s)))

-- ---- every sweep is the first one of a run from where it begins
module _ (n : ℕ) (order : is_order n ≡ true) (j : ℕ) where
  pub registers_repeat : (s : ℕ) → registers_at n (j * sweep_steps n + s) ≡ registers_at n s
  registers_repeat s =
      sym (registers_again n (j * sweep_steps n + s) order)
      ∙ ap (λ (t : ℕ). registers_of (processors_of n) (line_at (ordered_line (first_line n)) (processors_of n - 1) t))
      (mul-add-mod_self_right j (sweep_steps n) s)
      ∙ registers_again n s order

  module _ (X : State) where
    pub after_sweeps : (s : ℕ) → after n (j * sweep_steps n + s) X ≡ after n s (after n (j * sweep_steps n) X)
    unfolding after
    after_sweeps zero = rw add-zero
    after_sweeps (suc s) = rw (add-suc (j * sweep_steps n) s, registers_repeat s, after_sweeps s)

    pub met_repeat : (s i : ℕ) → pair_met n (j * sweep_steps n + s) i X ≡ pair_met n s i (after n (j * sweep_steps n) X)
    unfolding pair_met
    met_repeat s i = rw (registers_repeat s, after_sweeps s)

    pub turns_repeat : (s i : ℕ) → turns_in n (j * sweep_steps n + s) i X ≡ turns_in n s i (after n (j * sweep_steps n) X)
    unfolding turns_in
    turns_repeat s i = rw (met_repeat s i)

    pub rounded_repeat : (s i : ℕ) → rounded_in n (j * sweep_steps n + s) i X ≡ rounded_in n s i (after n (j * sweep_steps n) X)
    unfolding rounded_in
    rounded_repeat s i = rw (met_repeat s i)

    -- it is quiet exactly if no turn is counted in it
    pub counted_quiet : eqb (turns_by n (sweep_steps n) (after n (j * sweep_steps n) X)) 0 ≡ quiet n (suc j) X
    unfolding pairs_by quiet
    counted_quiet =
        let less : suc j - 1 ≡ j = omega arith in
        rw less (total_any _ _ (λ s. rw (fun_ext (turns_repeat s)) (count_any _ (processors_of n))) (sweep_steps n))

-- ---- states with the same entries at the lines 1 to n
-- what a processor finds, whatever it is where it is always still
ruled_same : (n i : ℕ) {f g : Found} → (still_of n ≤ i → f ≡ g) → ruled_found n i f ≡ ruled_found n i g
ruled_same n i {f} {g} same = go (ltb i (still_of n)) refl
  where
    go : (b : Bool) → ltb i (still_of n) ≡ b → ruled_found n i f ≡ ruled_found n i g
    go true e = let w = ltb-true _ _ e in sym (always_found n i f w) ∙ always_found n i g w
    go false e = ap (ruled_found n i) (same (ltb-false _ _ e))

module _ (n : ℕ) (order : is_order n ≡ true) where
  -- a pair of step k, by what is found of it in a state like that before the step
  pub met_as : (k i : ℕ) → i < processors_of n → (X Y : State) → Alike n X (after n k Y) → (f : Found)
      → (still_of n ≤ i → f ≡ found_at (get_or (registers_at n k).left i 0) (get_or (registers_at n k).right i 0)
      (pairs_rotated n (registers_at n k).left (registers_at n k).right i X).matrix)
      → ruled_found n i f ≡ pair_met n k i Y
  unfolding pair_met
  met_as k i h X Y alike f found = ruled_same n i (λ w. found w ∙ same w)
    where
      same : still_of n ≤ i
          → found_at (get_or (registers_at n k).left i 0) (get_or (registers_at n k).right i 0)
          (pairs_rotated n (registers_at n k).left (registers_at n k).right i X).matrix
          ≡ found_at (get_or (registers_at n k).left i 0) (get_or (registers_at n k).right i 0)
          (pairs_rotated n (registers_at n k).left (registers_at n k).right i (after n k Y)).matrix
      same w =
          let paired = registers_paired n order k in
          let m = (pairs_alike n _ _ i (λ o l. paired o (omega arith)) X (after n k Y) alike).matrices in
          let t = are_two n _ _ (n * n) (are_real n i _ _ (paired i h) w) in
          let p = first_line_lem t in
          let q = second_line_lem t in
          from_three found_of (m _ _ p p) (m _ _ q q) (m _ _ p q)

  module _ (X Y : State) (f : Alike n X Y) where
    pub met_alike : (k i : ℕ) → i < processors_of n → pair_met n k i X ≡ pair_met n k i Y
    met_alike k i h = unfold pair_met in (met_as k i h (after n k X) Y (after_alike n order k X Y f) _ (λ w. refl))

    pub turns_alike : (k i : ℕ) → i < processors_of n → turns_in n k i X ≡ turns_in n k i Y
    unfolding turns_in
    turns_alike k i h = rw (met_alike k i h)

    pub rounded_alike : (k i : ℕ) → i < processors_of n → rounded_in n k i X ≡ rounded_in n k i Y
    unfolding rounded_in
    rounded_alike k i h = rw (met_alike k i h)

    pub quiet_alike : (m : ℕ) → quiet n m X ≡ quiet n m Y
    unfolding quiet
    quiet_alike m =
        ap not
        (ap (any (sweep_steps n)) (fun_ext (λ s.
        any_within (processors_of n) (processors_of n) _ _ (omega arith) (turns_alike _) (λ i a b. absurd (omega arith)))))

    pub made_alike : (S : ℕ) → sweeps_made n S X ≡ sweeps_made n S Y
    unfolding sweeps_made
    made_alike zero = refl
    made_alike (suc m) = rw (ap (any m) (fun_ext (λ j. quiet_alike (suc j))), made_alike m)

    pub report_alike : (S : ℕ) → report_of n S X ≡ report_of n S Y
    unfolding report_of
    report_alike S = rw (made_alike S, pairs_same n _ _ (steps_of n (sweeps_made n S Y)) rounded_alike)
