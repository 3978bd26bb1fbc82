-- Two lists that hold a state, through the pairs of a step and the steps of a run. Assumes nothing.
use Prim.Native.Nat.{ℕ, zero, suc, ◌+◌, ◌*◌, ◌≤◌}
use mathlib.Core.Path.{◌≡◌, refl, ◌∙◌}
use mathlib.Core.Bool.{true}
use mathlib.Core.List.{List}
use native.Mathlib.Omega.{arith}
use native.Mathlib.Numerals.{add-one}
use lib.ListN.{get_or}
use lib.Ieee.{Float}
use Rattle.ordering.specs.declared.Registers.{Registers}
use Rattle.sizes.specs.Sizes.{is_order, processors_of, still_of}
use Rattle.ordering.specs.Pairs.{registers_at}
use Rattle.rotation.specs.declared.Parameters.{Parameters}
use Rattle.matrix_turns.specs.Turns.{parameters_of, two_lines}
use Rattle.matrix_turns.proofs.LinePairs.{are_two, first_line_lem, second_line_lem}
use Rattle.runs.specs.State.{State}
use Rattle.plain_pair.specs.Pair.{state_turned, state_of, Held}
use Rattle.runs.proofs.LineZero.{not_still}
use Rattle.plain_pair.proofs.RuledPairs.{rotated_by}
use Rattle.plain_pair.proofs.AlikeStates.{Alike, alike_sym, alike_trans, turned_alike, held_alike, read_alike}
use Rattle.plain_run.specs.State.{Paired, pairs_rotated, after}
use Rattle.plain_run.proofs.ProcessorPairs.{one_pair_more, registers_paired, rests_alike, rotated_alike}

module _ (n : ℕ) (ls rs : List ℕ) where
  pub pairs_alike : (N : ℕ) → Paired n ls rs N → (X Y : State) → Alike n X Y → Alike n (pairs_rotated n ls rs N X) (pairs_rotated n ls rs N Y)
  unfolding pairs_rotated
  pairs_alike zero paired X Y h = h
  pairs_alike (suc k) paired X Y h = rotated_alike n k _ _ (paired k (omega arith)) _ _ (pairs_alike k (λ i o. paired i (omega arith)) X Y h)

  -- the processors that are always still leave the lines 1 to n
  still_pairs : (k : ℕ) → Paired n ls rs k → k ≤ still_of n → (X : State) → Alike n X (pairs_rotated n ls rs k X)
  unfolding pairs_rotated
  still_pairs zero paired h X = record { matrices = λ r c hr hc. refl; eigenvectors = λ r c hr hc. refl }
  still_pairs (suc k) paired h X =
      alike_trans n (still_pairs k (λ i o. paired i (omega arith)) (omega arith) X)
      (alike_sym n (rests_alike n k _ _ (pairs_rotated n ls rs k X) (paired k (omega arith)) (omega arith)))

module _ (n : ℕ) (l e l' e' : List Float) (X : State) (held : Held n l e X) where
  -- one pair more
  pub pair_next : (P : Parameters) (ls rs : List ℕ) (k : ℕ) (Y : State) → still_of n ≤ k → two_lines n (get_or ls k 0) (get_or rs k 0) (n * n) ≡ true
      → X ≡ pairs_rotated n ls rs k Y → P ≡ parameters_of (get_or ls k 0) (get_or rs k 0) X.matrix
      → Held n l' e' (state_turned P (get_or ls k 0) (get_or rs k 0) (state_of n l e)) → Held n l' e' (pairs_rotated n ls rs (k + 1) Y)
  pair_next P ls rs k Y w two z f h =
      let t = are_two n _ _ (n * n) two in
      rw (add-one, one_pair_more n ls rs k Y, ← z, rotated_by n k (get_or ls k 0) (get_or rs k 0) X (f ∙ not_still n k _ w))
      (held_alike n l' e' _ _ h (turned_alike n (get_or ls k 0) (get_or rs k 0) (first_line_lem t) (second_line_lem t) P _ _ (read_alike n l e X held)))

  -- one step more
  pub step_next : (R : Registers) (k : ℕ) (Y : State) → R ≡ registers_at n k → Paired n R.left R.right (processors_of n) → X ≡ after n k Y
      → Held n l' e' (pairs_rotated n R.left R.right (processors_of n) (state_of n l e)) → Held n l' e' (after n (k + 1) Y)
  unfolding after
  step_next R k Y r paired z h =
      rw (add-one, ← z, ← r) (held_alike n l' e' _ _ h (pairs_alike n R.left R.right (processors_of n) paired _ _ (read_alike n l e X held)))

module _ (n : ℕ) (l e : List Float) (Y : State) (held : Held n l e Y) where
  -- before the first pair that is not always still
  pub no_pairs : (ls rs : List ℕ) (N : ℕ) {k : ℕ} → Paired n ls rs N → k ≡ still_of n → k ≤ N → Held n l e (pairs_rotated n ls rs k Y)
  no_pairs ls rs N paired z o = held_alike n l e _ _ held (still_pairs n ls rs _ (λ i h. paired i (omega arith)) (omega arith) Y)

  pub no_steps : Held n l e (after n 0 Y)
  unfolding after
  no_steps = held

pub after_alike : (n : ℕ) → is_order n ≡ true → (k : ℕ) (X Y : State) → Alike n X Y → Alike n (after n k X) (after n k Y)
unfolding after
after_alike n order zero X Y h = h
after_alike n order (suc k) X Y h = pairs_alike n _ _ (processors_of n) (registers_paired n order k) _ _ (after_alike n order k X Y h)
