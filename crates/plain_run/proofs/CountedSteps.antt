-- The turns and the rounded pairs as the code counts them, step by step and sweep by sweep. Assumes nothing.
use Prim.Native.Nat.{ℕ, suc, ◌+◌, ◌*◌, ◌≤◌, ◌<◌}
use mathlib.Core.Path.{◌≡◌, refl, sym, ap, ◌∙◌}
use mathlib.Core.Bool.{Bool, true, false, not, cond}
use mathlib.Core.List.{List}
use native.Mathlib.Nat.{suc-mul, le_refl, mul-le-mul}
use native.Mathlib.Numerals.{add-one}
use native.Mathlib.Omega.{arith}
use borrow.Author.Tests.{eq-eqb, ne_eqb}
use lib.Dec.{eqb}
use mir.Val.{bool_byte}
use lib.ListN.{get_or}
use lib.Ieee.{Float}
use Rattle.lists.specs.Bounded.{count, total}
use Rattle.lists.proofs.Bounded.{count_below, count_more, count_most}
use Rattle.lists.proofs.Sums.{total_most}
use Rattle.sizes.specs.Sizes.{most_processors, most_sweeps, largest_order, is_order, processors_of, sweep_steps, still_of, steps_of}
use Rattle.sizes.proofs.Orders.{order_half, steps_few}
use Rattle.ordering.specs.declared.Registers.{Registers}
use Rattle.ordering.specs.Pairs.{registers_at}
use Rattle.rotation.specs.declared.Found.{Found}
use Rattle.root.specs.declared.Root.{Root}
use Rattle.rotation.specs.declared.Angle.{Angle}
use Rattle.rotation.specs.Rotation.{of_angle}
use Rattle.matrix_turns.specs.Turns.{exact_of}
use Rattle.runs.specs.State.{State}
use Rattle.runs.specs.Blocks.{ruled, ruled_exact}
use Rattle.runs.specs.Counts.{is_turn}
use Rattle.plain_pair.specs.Pair.{state_of, Held}
use Rattle.plain_pair.proofs.AlikeStates.{held_alike, read_alike}
use Rattle.plain_run.specs.State.{pairs_rotated, after}
use Rattle.plain_run.specs.Met.{pair_met, turns_in, rounded_in, pairs_by, turns_by, rounded_by}
use Rattle.plain_run.specs.Quiet.{quiet}
use Rattle.plain_run.specs.Angles.{no_tangent, no_angle, exact_by}
use Rattle.plain_run.proofs.StepParameters.{Angled}
use Rattle.plain_run.proofs.CountedPairs.{pairs_same, pairs_more, after_sweeps, rounded_repeat, counted_quiet, met_as, turns_alike, rounded_alike}
use Rattle.plain_run.proofs.HeldStates.{no_steps, after_alike}

-- ---- one more of a count, by a test as a number
pub flag_counted : (f : ℕ → Bool) (k : ℕ) {t : ℕ} {b : Bool} → t ≡ count f k → b ≡ f k → t + bool_byte b ≡ count f (k + 1)
flag_counted f k {b} e g = count_more f k e (as_number b ∙ ap (λ (b : Bool). cond b 1 0) g)
  where
    as_number : (b : Bool) → bool_byte b ≡ cond b 1 0
    as_number true = refl
    as_number false = refl

-- ---- the first steps
module _ (n : ℕ) (test : ℕ → ℕ → Bool) where
  pub none_counted_lem : 0 ≡ pairs_by n test 0
  unfolding pairs_by total
  none_counted_lem = refl

  step_counted : (k : ℕ) {c x : ℕ} (own : ℕ → Bool) → ((i : ℕ) → i < processors_of n → own i ≡ test k i) → c ≡ pairs_by n test k
      → x ≡ count own (processors_of n) → c + x ≡ pairs_by n test (k + 1)
  unfolding pairs_by total
  step_counted k own same f g = rw (add-one k, f, g) (ap (λ (x : ℕ). pairs_by n test k + x) (count_below own (test k) (processors_of n) same))

  pub pairs_bounded : (k : ℕ) → pairs_by n test k ≤ k * processors_of n
  unfolding pairs_by
  pairs_bounded k = total_most _ (processors_of n) k (λ s h. count_most (test s) (processors_of n) refl)

  pub pairs_few : is_order n ≡ true → (k : ℕ) {c : ℕ} → c ≡ pairs_by n test k → c ≤ k * most_processors
  pairs_few order k e =
      let bounded : pairs_by n test k ≤ k * processors_of n = pairs_bounded k in
      let few : k * processors_of n ≤ k * most_processors = mul-le-mul (le_refl k) (order_half n order).1 in
      omega arith

-- ---- step k, by what is found of its pairs in lists that hold the state before it
module _ (n : ℕ) (order : is_order n ≡ true) (R : Registers) (k : ℕ) (X : State) (angles : List Angle) (tangents : List Root) (l e : List Float)
    (stand : R ≡ registers_at n k) (held : Held n l e (after n k X)) (angled : Angled n angles R.left R.right (state_of n l e) (processors_of n))
    (exact : (i : ℕ) → still_of n ≤ i → i < processors_of n → exact_by (get_or tangents i no_tangent)
    ≡ exact_of (get_or R.left i 0) (get_or R.right i 0) (pairs_rotated n R.left R.right i (state_of n l e)).matrix) where
  found_met : (i : ℕ) → i < processors_of n
      → record { parameters = ruled n i (of_angle (get_or angles i no_angle)); exact = ruled_exact n i (exact_by (get_or tangents i no_tangent)) }
      ≡ pair_met n k i X
  found_met i h =
      met_as n order k i h (state_of n l e) X (read_alike n l e _ held)
      (record { parameters = of_angle (get_or angles i no_angle); exact = exact_by (get_or tangents i no_tangent) })
      (λ w. let a = (rw stand at angled) i w h in let b = (rw stand at exact) i w h in rw (a, b))

  pub turns_next : {c x : ℕ} → c ≡ turns_by n k X → x ≡ count (λ i. is_turn (ruled n i (of_angle (get_or angles i no_angle)))) (processors_of n)
      → c + x ≡ turns_by n (k + 1) X
  unfolding turns_in
  turns_next f g = step_counted n _ k _ (λ i h. ap (λ (f : Found). is_turn f.parameters) (found_met i h)) f g

  pub rounded_next : {c x : ℕ} → c ≡ rounded_by n k X
      → x ≡ count (λ i. not (ruled_exact n i (exact_by (get_or tangents i no_tangent)))) (processors_of n) → c + x ≡ rounded_by n (k + 1) X
  unfolding rounded_in
  rounded_next f g = step_counted n _ k _ (λ i h. ap (λ (f : Found). not f.exact) (found_met i h)) f g

-- ---- the first sweeps
pub no_sweep : (n : ℕ) (l e : List Float) (X : State) → Held n l e X → Held n l e (after n (steps_of n 0) X)
no_sweep n l e X h = let z : steps_of n 0 ≡ 0 = omega arith in rw z (no_steps n l e X h)

pub none_rounded : (n : ℕ) (X : State) → 0 ≡ rounded_by n (steps_of n 0) X
none_rounded n X = let z : steps_of n 0 ≡ 0 = omega arith in rw z (none_counted_lem n _)

pub sweeps_few : (n : ℕ) (X : State) → is_order n ≡ true → (m : ℕ) {c : ℕ} → m ≤ most_sweeps → c ≡ rounded_by n (steps_of n m) X
    → c ≤ most_sweeps * largest_order * most_processors
sweeps_few n X order m h e =
    let few : steps_of n m ≤ most_sweeps * largest_order = steps_few n m order h in
    omega (arith, pairs_few n _ order (steps_of n m) e, few)

-- the sweep after j sweeps, from the lists that hold the state there
module _ (n : ℕ) (order : is_order n ≡ true) (X : State) (j : ℕ) (l e : List Float) (held : Held n l e (after n (steps_of n j) X)) where
  pub sweep_next : (l' e' : List Float) → Held n l' e' (after n (sweep_steps n) (state_of n l e)) → Held n l' e' (after n (steps_of n (j + 1)) X)
  sweep_next l' e' h =
      rw (add-one j, suc-mul j (sweep_steps n), after_sweeps n order j X (sweep_steps n))
      (held_alike n l' e' _ _ h (after_alike n order (sweep_steps n) _ _ (read_alike n l e _ held)))

  pub sweep_rounded : {c x : ℕ} → c ≡ rounded_by n (steps_of n j) X → x ≡ rounded_by n (sweep_steps n) (state_of n l e)
      → c + x ≡ rounded_by n (steps_of n (j + 1)) X
  sweep_rounded f g =
      rw (add-one j, suc-mul j (sweep_steps n), f, g)
      (sym (pairs_more n _ _ (steps_of n j) (sweep_steps n) (λ s i h.
      rounded_repeat n order j X s i ∙ sym (rounded_alike n order _ _ (read_alike n l e _ held) s i h))))

  sweep_counted : {t : ℕ} → t ≡ turns_by n (sweep_steps n) (state_of n l e) → eqb t 0 ≡ quiet n (suc j) X
  sweep_counted f =
      ap (λ (t : ℕ). eqb t 0) (f ∙ pairs_same n _ _ (sweep_steps n) (turns_alike n order _ _ (read_alike n l e _ held))) ∙ counted_quiet n order j X

  pub sweep_quiet : {t : ℕ} → t ≡ turns_by n (sweep_steps n) (state_of n l e) → t ≡ 0 → quiet n (suc j) X ≡ true
  sweep_quiet f z = sym (sweep_counted f) ∙ eq-eqb _ 0 z

  pub sweep_turning : {t : ℕ} → t ≡ turns_by n (sweep_steps n) (state_of n l e) → ¬ (t ≡ 0) → quiet n (suc j) X ≡ false
  sweep_turning f z = sym (sweep_counted f) ∙ ne_eqb _ 0 z
