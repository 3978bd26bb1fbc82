-- A quiet sweep leaves +0 off the diagonal, and no step after it changes anything. Assumes nothing: the entries
-- need not be finite.
use Prim.Native.Nat.{ℕ, zero, suc, ◌+◌, ◌-◌, ◌*◌, ◌≤◌, ◌<◌}
use mathlib.Core.Path.{◌≡◌, refl, sym, ap, ◌∙◌}
use mathlib.Core.Bool.{Bool, true, false, not}
use mathlib.Core.Logic.{◌≢◌}
use native.Mathlib.Nat.{add-zero, add-suc, suc-mul}
use native.Mathlib.Omega.{arith}
use borrow.Author.Tests.{ltb-true, ltb-false, not-true}
use lib.Dec.{ltb}
use lib.ListN.{get_or}
use lib.Ieee.{Float}
use Rattle.float64.specs.Values.{plus_zero}
use Rattle.lists.specs.Bounded.{any}
use Rattle.lists.proofs.Bounded.{same_bool, any_to, any_from}
use Rattle.systolic.specs.Slots.{left, right, Slot, ordered_line, Meet, in_order, reversed}
use Rattle.systolic.proofs.Lines.{lines_meet, in_order_one, in_order_of}
use Rattle.sizes.specs.Sizes.{is_order, processors_of, sweep_steps, first_line}
use Rattle.sizes.proofs.Orders.{order_half, sweep_is}
use Rattle.ordering.specs.Pairs.{registers_at}
use Rattle.ordering.proofs.RegisterLines.{left_stands, right_stands, line_within}
use Rattle.runs.specs.State.{State}
use Rattle.plain_run.specs.State.{pairs_rotated, after, not_finite, spoiled}
use Rattle.plain_run.specs.Met.{pair_met, turns_in}
use Rattle.plain_run.specs.Quiet.{quiet}
use Rattle.plain_run.proofs.ProcessorPairs.{registers_paired, differ}
use Rattle.plain_run.proofs.StillPairs.{no_turn, pair_unchanged, step_clears, step_keeps_zero}

-- ---- a sweep is quiet exactly if no processor turns in a step of it
abbrev pub NoTurns : ℕ → ℕ → ℕ → State → Type 0
NoTurns n z L X = (s : ℕ) → s < L → (i : ℕ) → i < processors_of n → turns_in n (z + s) i X ≡ false

module _ (n m : ℕ) (X : State) where
  pub quiet_still : quiet n m X ≡ true → NoTurns n ((m - 1) * sweep_steps n) (sweep_steps n) X
  unfolding quiet
  quiet_still e s h i o = any_to _ _ (any_to _ _ (not-true _ e) s (omega arith)) i (omega arith)

  pub still_quiet : NoTurns n ((m - 1) * sweep_steps n) (sweep_steps n) X → quiet n m X ≡ true
  unfolding quiet
  still_quiet f = ap not (any_from (sweep_steps n) _ (λ s h. any_from (processors_of n) _ (f s h)))

-- ---- L steps from step z on in which no processor turns
module _ (n : ℕ) (order : is_order n ≡ true) (X : State) (z L : ℕ) (none : NoTurns n z L X) where
  -- +0 before some of them is +0 after d more
  steps_keep_zero : (r c s d : ℕ) → s + d ≤ L → (after n (z + s) X).matrix r c ≡ plus_zero → (after n (z + (s + d)) X).matrix r c ≡ plus_zero
  unfolding after turns_in pair_met
  steps_keep_zero r c s zero h e = rw add-zero e
  steps_keep_zero r c s (suc d) h e =
      rw (add-suc, add-suc)
      (step_keeps_zero n _ _ (processors_of n) (registers_paired n order (z + (s + d))) _ (λ i o. no_turn _ (none (s + d) (omega arith) i o)) r c
      (steps_keep_zero r c s d (omega arith) e))

  -- from the end of step z + s to the end of all of them
  from_step : (r c s : ℕ) → s < L
      → (pairs_rotated n (registers_at n (z + s)).left (registers_at n (z + s)).right (processors_of n) (after n (z + s) X)).matrix r c ≡ plus_zero
      → (after n (z + L) X).matrix r c ≡ plus_zero
  from_step r c s h e =
      let w : suc s + (L - suc s) ≡ L = omega arith in
      rw w at (steps_keep_zero r c (suc s) (L - suc s) (omega arith) (rw add-suc (unfold after in e)))

  -- the entries of processor i in step z + s
  pair_cleared : (s i p q : ℕ) → s < L → i < processors_of n → get_or (registers_at n (z + s)).left i 0 ≡ p → get_or (registers_at n (z + s)).right i 0 ≡ q
      → ((after n (z + L) X).matrix p q ≡ plus_zero) × ((after n (z + L) X).matrix q p ≡ plus_zero)
  unfolding turns_in pair_met
  pair_cleared s i p q h o e f =
      let w =
      step_clears n _ _ (processors_of n) (registers_paired n order (z + s)) (after n (z + s) X) (λ i o. no_turn _ (none s h i o)) i o in
      (from_step p q s h (rw (e, f) at w.0), from_step q p s h (rw (e, f) at w.1))

  -- lines that meet in one of the steps
  met_cleared : (s p q : ℕ) → s < L → Meet (ordered_line (first_line n)) (processors_of n - 1) (z + s) p q → (after n (z + L) X).matrix p q ≡ plus_zero
  met_cleared s p q h (in_order i o a b) =
      let below : i < processors_of n = let w = order_half n order in omega arith in
      (pair_cleared s i p q h below (left_stands n order (z + s) i below ∙ a) (right_stands n order (z + s) i below ∙ b)).0
  met_cleared s p q h (reversed i o a b) =
      let below : i < processors_of n = let w = order_half n order in omega arith in
      (pair_cleared s i q p h below (left_stands n order (z + s) i below ∙ a) (right_stands n order (z + s) i below ∙ b)).1

-- ---- after a sweep
-- a line that stands in a register, line 0 of an odd order included
abbrev pub InRegisters : ℕ → ℕ → Type 0
InRegisters n r = (first_line n ≤ r) × (r ≤ n)

-- the entries off the diagonal are +0
abbrev pub Diagonal : ℕ → (ℕ → ℕ → Float) → Type 0
Diagonal n A = (r c : ℕ) → InRegisters n r → InRegisters n c → r ≢ c → A r c ≡ plus_zero

module _ (n : ℕ) (order : is_order n ≡ true) (X : State) where
  -- two lines meet in a sweep, wherever it begins
  pub still_sweep : (z : ℕ) → NoTurns n z (sweep_steps n) X → Diagonal n (after n (z + sweep_steps n) X).matrix
  still_sweep z none r c hr hc rc =
      go (in_order_of (first_line n) (processors_of n - 1) r hr.0 (within r hr.1))
      (in_order_of (first_line n) (processors_of n - 1) c hc.0 (within c hc.1))
    where
      within : (p : ℕ) → p ≤ n → p < first_line n + 2 * suc (processors_of n - 1)
      within p h = let o = order_half n order in omega arith

      met : {p q : ℕ} → p ≡ r → q ≡ c → (s : ℕ) → s < 2 * (processors_of n - 1) + 1 → Meet (ordered_line (first_line n)) (processors_of n - 1) (z + s) p q
          → (after n (z + sweep_steps n) X).matrix r c ≡ plus_zero
      met e f s h meet = met_cleared n order X z (sweep_steps n) none s r c (rw (sweep_is n order) h) (rw (e, f) at meet)

      go : (u : Slot) × (u.processor ≤ processors_of n - 1) × (ordered_line (first_line n) u ≡ r)
          → (w : Slot) × (w.processor ≤ processors_of n - 1) × (ordered_line (first_line n) w ≡ c)
          → (after n (z + sweep_steps n) X).matrix r c ≡ plus_zero
      go u w =
          let f =
          lines_meet (ordered_line (first_line n)) (processors_of n - 1) (in_order_one (first_line n) (processors_of n - 1)) z u.0 w.0 u.1 w.1
          (λ e. rc (sym u.2 ∙ ap (ordered_line (first_line n)) e ∙ w.2)) in
          met u.2 w.2 f.0 f.1 f.2

  pub quiet_diagonal : (m : ℕ) → 1 ≤ m → quiet n m X ≡ true → Diagonal n (after n (m * sweep_steps n) X).matrix
  quiet_diagonal (suc j) h e =
      let less : suc j - 1 ≡ j = omega arith in
      rw (suc-mul j (sweep_steps n)) (still_sweep (j * sweep_steps n) (rw less at (quiet_still n (suc j) X e)))
  quiet_diagonal zero h e = absurd (omega arith)

-- ---- where all entries off the diagonal are +0, a step leaves both matrices as they are
module _ (n : ℕ) (order : is_order n ≡ true) where
  -- the two entries of a pair in registers
  pub pair_blank : (s i : ℕ) → i < processors_of n → (A : ℕ → ℕ → Float) → Diagonal n A → let r = registers_at n s in
      let p = get_or r.left i 0 in let q = get_or r.right i 0 in (A p q ≡ plus_zero) × (A q p ≡ plus_zero)
  pair_blank s i l A d =
      let pq = differ n i _ _ (registers_paired n order s i l) in
      let hp = rw (← (left_stands n order s i l)) at (line_within n order s i l left) in
      let hq = rw (← (right_stands n order s i l)) at (line_within n order s i l right) in
      (d _ _ hp hq pq, d _ _ hq hp (λ e. pq (sym e)))

  pub pairs_unchanged : (s k : ℕ) → k ≤ processors_of n → (X : State) → Diagonal n X.matrix
      → pairs_rotated n (registers_at n s).left (registers_at n s).right k X ≡ X
  unfolding pairs_rotated
  pairs_unchanged s zero h X d = refl
  pairs_unchanged s (suc k) h X d =
      let pq = differ n k _ _ (registers_paired n order s k (omega arith)) in
      let z = pair_blank s k (omega arith) X.matrix d in
      rw (pairs_unchanged s k (omega arith) X d) (pair_unchanged n k _ _ pq X z.0 z.1)

  module _ (X : State) (K : ℕ) (d : Diagonal n (after n K X).matrix) where
    stays_settled : (i : ℕ) → after n (K + i) X ≡ after n K X
    unfolding after
    stays_settled zero = rw add-zero
    stays_settled (suc i) = rw (add-suc, stays_settled i) (pairs_unchanged (K + i) (processors_of n) (omega arith) (after n K X) d)

    pub settled : (K' : ℕ) → K ≤ K' → after n K' X ≡ after n K X
    settled K' h = let e : K + (K' - K) ≡ K' = omega arith in rw e at (stays_settled (K' - K))

    pub settled_spoiled : 1 ≤ K → (K' : ℕ) → K ≤ K' → spoiled n K' X ≡ spoiled n K X
    unfolding spoiled
    settled_spoiled some K' h =
        same_bool _ _ (λ e. any_from K _ (λ k o. any_to K' _ e k (omega arith))) (λ e. any_from K' _ (λ k o. go e k (ltb k K) refl))
      where
        last : suc (K - 1) ≡ K
        last = omega arith

        go : any K (λ k. not_finite n (after n (suc k) X)) ≡ false → (k : ℕ) → (b : Bool) → ltb k K ≡ b → not_finite n (after n (suc k) X) ≡ false
        go e k true z = any_to K _ e k (ltb-true _ _ z)
        go e k false z =
            let w : K ≤ k = ltb-false _ _ z in
            ap (not_finite n) (settled (suc k) (omega arith)) ∙ (rw last at (any_to K _ e (K - 1) (omega arith)))
