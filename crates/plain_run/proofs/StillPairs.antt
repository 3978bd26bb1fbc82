-- A pair that is still clears its own two entries and keeps all others. Assumes nothing.
use Prim.Native.Nat.{ℕ, zero, suc, ◌+◌, ◌-◌, ◌≤◌, ◌<◌}
use mathlib.Core.Path.{◌≡◌, refl, sym, ◌∙◌, fun_ext}
use mathlib.Core.Bool.{Bool, true, false, cond, ◌&&◌, true≢false}
use mathlib.Core.List.{List}
use mathlib.Core.Logic.{◌≢◌}
use native.Mathlib.Nat.{add-zero, add-suc}
use native.Mathlib.Omega.{arith}
use borrow.Author.Tests.{eqb-true}
use lib.Dec.{eqb, ltb}
use lib.ListN.{get_or}
use lib.Ieee.{Float, eq, of_bits}
use Rattle.float64.specs.Values.{plus_zero}
use Rattle.rotation.specs.declared.Parameters.{Parameters}
use Rattle.rotation.specs.declared.Parameters.TheVariants.{Still, Turn}
use Rattle.rotation.proofs.ParameterCases.{still_pair}
use Rattle.sizes.specs.Sizes.{still_of}
use Rattle.matrix_turns.specs.Turns.{parameters_of}
use Rattle.matrix_turns.proofs.StillTurns.{still_all_columns}
use Rattle.runs.specs.State.{State, state}
use Rattle.runs.specs.Blocks.{ruled}
use Rattle.runs.specs.Counts.{is_turn}
use Rattle.plain_pair.specs.Pair.{with_entry, pair_turned, pair_rotated}
use Rattle.plain_pair.proofs.TurnedEntries.{at_first_second, at_second_first}
use Rattle.plain_pair.proofs.TurnedStates.{still_turned}
use Rattle.plain_pair.proofs.RuledPairs.{rotated_by}
use Rattle.plain_run.specs.State.{Paired, pairs_rotated}
use Rattle.plain_run.proofs.ProcessorPairs.{differ}

-- what does not turn is still
pub no_turn : (P : Parameters) → is_turn P ≡ false → P ≡ Still
no_turn Still e = refl
no_turn (Turn t c s) e = absurd (true≢false e)

-- ---- one pair
module _ (p q : ℕ) (pq : p ≢ q) (A : ℕ → ℕ → Float) where
  -- an entry is kept or becomes +0
  pub kept_or_zero : (Q : Float → Type 0) (r c : ℕ) → Q plus_zero → Q (A r c) → Q (pair_turned Still p q A r c)
  kept_or_zero Q r c z h = rw (still_turned 0 p q A pq r c) (unfold with_entry in (either (eqb r q && eqb c p) _ (either (eqb r p && eqb c q) _ h)))
    where
      either : (b : Bool) (y : Float) → Q y → Q (cond b plus_zero y)
      either true y h = z
      either false y h = h

-- +0 where it is already
zero_again : (p q : ℕ) (A : ℕ → ℕ → Float) → A p q ≡ plus_zero → (r c : ℕ) → with_entry p q plus_zero A r c ≡ A r c
unfolding with_entry
zero_again p q A z r c = go (eqb r p) (eqb c q) refl refl
  where
    go : (a b : Bool) → eqb r p ≡ a → eqb c q ≡ b → cond (a && b) plus_zero (A r c) ≡ A r c
    go true true e f = sym (rw (eqb-true r p e, eqb-true c q f) z)
    go true false e f = refl
    go false b e f = refl

-- a pair with b = +0 is still, whichever processor has it
pub zero_still : (n i p q : ℕ) (A : ℕ → ℕ → Float) → A p q ≡ plus_zero → Still ≡ ruled n i (parameters_of p q A)
unfolding ruled of_bits
zero_still n i p q A z = rw (← (still_pair (A p p) (A q q) (A p q) (rw z (unfold eq in refl)))) (either (ltb i (still_of n)))
  where
    either : (b : Bool) → Still ≡ cond b Still Still
    either true = refl
    either false = refl

same_state : {A B E F : ℕ → ℕ → Float} → ((r c : ℕ) → A r c ≡ B r c) → ((r c : ℕ) → E r c ≡ F r c) → state A E ≡ state B F
same_state f g = rw (fun_ext (λ r. fun_ext (f r)), fun_ext (λ r. fun_ext (g r)))

module _ (n i p q : ℕ) (pq : p ≢ q) (X : State) where
  -- where its two entries are +0 it changes nothing
  pub pair_unchanged : X.matrix p q ≡ plus_zero → X.matrix q p ≡ plus_zero → pair_rotated n i p q X ≡ X
  pair_unchanged z y =
      rotated_by n i p q X (zero_still n i p q X.matrix z)
      ∙ same_state
      (λ r c. still_turned 0 p q X.matrix pq r c ∙ zero_again q p _ (zero_again p q X.matrix z q p ∙ y) r c ∙ zero_again p q X.matrix z r c)
      (λ r c. still_all_columns p q X.vectors r c)

  -- it clears its own two entries, still or not
  pub pair_clears : (pair_rotated n i p q X).matrix p q ≡ plus_zero
  unfolding pair_rotated
  pair_clears = at_first_second _ p q X.matrix pq

  pub pair_clears_too : (pair_rotated n i p q X).matrix q p ≡ plus_zero
  unfolding pair_rotated
  pair_clears_too = at_second_first _ p q X.matrix pq

  pair_keeps_zero : ruled n i (parameters_of p q X.matrix) ≡ Still → (r c : ℕ) → X.matrix r c ≡ plus_zero → (pair_rotated n i p q X).matrix r c ≡ plus_zero
  pair_keeps_zero still r c z = rw (rotated_by n i p q X (sym still)) (kept_or_zero p q pq X.matrix (λ x. x ≡ plus_zero) r c refl z)

-- ---- the pairs of a step, all still
module _ (n : ℕ) (ls rs : List ℕ) (N : ℕ) (paired : Paired n ls rs N) (X : State)
    (stills : (i : ℕ) → i < N → ruled n i (parameters_of (get_or ls i 0) (get_or rs i 0) (pairs_rotated n ls rs i X).matrix) ≡ Still) where
  apart : (i : ℕ) → i < N → get_or ls i 0 ≢ get_or rs i 0
  apart i h = differ n i _ _ (paired i h)

  -- +0 after i of them is +0 after d more
  pairs_keep_zero : (r c i d : ℕ) → i + d ≤ N → (pairs_rotated n ls rs i X).matrix r c ≡ plus_zero → (pairs_rotated n ls rs (i + d) X).matrix r c ≡ plus_zero
  unfolding pairs_rotated
  pairs_keep_zero r c i zero h z = rw add-zero z
  pairs_keep_zero r c i (suc d) h z =
      rw add-suc
      (pair_keeps_zero n (i + d) _ _ (apart (i + d) (omega arith)) _ (stills (i + d) (omega arith)) r c (pairs_keep_zero r c i d (omega arith) z))

  -- from the turn of processor i to the end of the step
  to_the_end : (r c i : ℕ) → i < N → (pair_rotated n i (get_or ls i 0) (get_or rs i 0) (pairs_rotated n ls rs i X)).matrix r c ≡ plus_zero
      → (pairs_rotated n ls rs N X).matrix r c ≡ plus_zero
  to_the_end r c i h z =
      let e : suc i + (N - suc i) ≡ N = omega arith in
      rw e at (pairs_keep_zero r c (suc i) (N - suc i) (omega arith) (unfold pairs_rotated in z))

  -- the entries of each pair are cleared at the end of the step
  pub step_clears : (i : ℕ) → i < N
      → ((pairs_rotated n ls rs N X).matrix (get_or ls i 0) (get_or rs i 0) ≡ plus_zero)
      × ((pairs_rotated n ls rs N X).matrix (get_or rs i 0) (get_or ls i 0) ≡ plus_zero)
  step_clears i h =
      (to_the_end _ _ i h (pair_clears n i _ _ (apart i h) _), to_the_end _ _ i h (pair_clears_too n i _ _ (apart i h) _))

  pub step_keeps_zero : (r c : ℕ) → X.matrix r c ≡ plus_zero → (pairs_rotated n ls rs N X).matrix r c ≡ plus_zero
  step_keeps_zero r c z =
      let e : 0 + N ≡ N = omega arith in
      rw e at (pairs_keep_zero r c 0 N (omega arith) (unfold pairs_rotated in z))
