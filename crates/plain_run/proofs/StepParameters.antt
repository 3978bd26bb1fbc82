-- What is found of the pairs of a step before it, parameters and exactness, is what each processor finds at its turn. Assumes nothing.
use Prim.Native.Nat.{ℕ, zero, suc, ◌*◌, ◌≤◌, ◌<◌}
use mathlib.Core.Path.{◌≡◌, refl, sym, ap, ◌∙◌}
use mathlib.Core.Bool.{true}
use mathlib.Core.List.{List}
use mathlib.Core.Logic.{◌≢◌}
use native.Mathlib.Nat.{le_refl}
use native.Mathlib.Omega.{arith}
use lib.ListN.{length, get_or}
use lib.Ieee.{Float}
use Rattle.systolic.specs.Slots.{Side, left, right}
use Rattle.ordering.specs.declared.Registers.{Registers}
use Rattle.ordering.specs.Registers.{standing}
use Rattle.sizes.specs.Sizes.{is_order, processors_of, still_of}
use Rattle.ordering.specs.Pairs.{registers_at}
use Rattle.ordering.proofs.RegisterLines.{stands, lines_apart}
use Rattle.root.specs.declared.Root.{Root}
use Rattle.rotation.specs.declared.Angle.{Angle}
use Rattle.rotation.specs.Rotation.{angle_of, of_angle, of_tangent, of_pair}
use Rattle.rotation.specs.Exact.{exact_pair}
use Rattle.rotation.proofs.ParameterCases.{by_tangent}
use Rattle.rotation.proofs.RootsFound.{pair_roots}
use Rattle.matrix.specs.Matrix.{entry_of}
use Rattle.matrix_turns.specs.Turns.{tangent_at, parameters_of, exact_of}
use Rattle.matrix_turns.proofs.LinePairs.{two_as, from_three, pair_entries}
use Rattle.runs.specs.State.{State}
use Rattle.plain_pair.specs.Pair.{pair_rotated, state_of}
use Rattle.plain_pair.proofs.TurnedEntries.{at_others}
use Rattle.plain_run.specs.State.{Paired, pairs_rotated}
use Rattle.plain_run.specs.Angles.{no_tangent, no_angle, exact_by}
use Rattle.plain_run.proofs.ProcessorPairs.{registers_paired, differ, are_real}

-- the processors below N that are not always still turn by these angles
abbrev pub Angled : ℕ → List Angle → List ℕ → List ℕ → State → ℕ → Type 0
Angled n angles ls rs X N =
    (k : ℕ) → still_of n ≤ k → k < N → of_angle (get_or angles k no_angle) ≡ parameters_of (get_or ls k 0) (get_or rs k 0) (pairs_rotated n ls rs k X).matrix

-- no line of a processor below N stands in a processor before it
abbrev Apart : List ℕ → List ℕ → ℕ → Type 0
Apart ls rs N = (i k : ℕ) → i < k → k < N → (r t : Side) → standing ls rs r i ≢ standing ls rs t k

registers_apart : (n : ℕ) → is_order n ≡ true → (s : ℕ) → Apart (registers_at n s).left (registers_at n s).right (processors_of n)
registers_apart n order s i k h below r t e =
    lines_apart n order s k below r t i h (sym (stands n order s i (omega arith) r) ∙ e ∙ stands n order s k below t)

-- what is found of the lines p and q
abbrev found_on : {Y : Type 0} → (Float → Float → Float → Y) → ℕ → ℕ → (ℕ → ℕ → Float) → Y
found_on find p q A = find (A p p) (A q q) (A p q)

module _ (n : ℕ) (ls rs : List ℕ) (N : ℕ) (paired : Paired n ls rs N) (apart : Apart ls rs N) where
  -- the pairs of the first i processors leave the entries of a later one alone
  entry_stays : (X : State) (i k : ℕ) → i ≤ k → k < N → (r c : Side)
      → (pairs_rotated n ls rs i X).matrix (standing ls rs r k) (standing ls rs c k) ≡ X.matrix (standing ls rs r k) (standing ls rs c k)
  unfolding pairs_rotated pair_rotated standing
  entry_stays X zero k h below r c = refl
  entry_stays X (suc i) k h below r c =
      at_others _ (get_or ls i 0) (get_or rs i 0) _ (differ n i _ _ (paired i (omega arith)))
      _ (other left r) (other right r) _ (other left c) (other right c)
      ∙ entry_stays X i k (omega arith) below r c
    where
      other : (t s : Side) → standing ls rs s k ≢ standing ls rs t i
      other t s e = apart i k (omega arith) below t s (sym e)

  -- what is found before the step is what is found at the processor's turn
  found_before : {Y : Type 0} (find : Float → Float → Float → Y) (l e : List Float) → length l ≡ n * n → (k : ℕ) → still_of n ≤ k → k < N
      → found_on find (get_or ls k 0) (get_or rs k 0) (entry_of n l)
      ≡ found_on find (get_or ls k 0) (get_or rs k 0) (pairs_rotated n ls rs k (state_of n l e)).matrix
  unfolding state_of standing
  found_before find l e long k w below =
      let t = pair_entries n _ _ l (two_as n _ _ (are_real n k _ _ (paired k below) w) long) in
      from_three find (t.0 ∙ sym (stays left left)) (t.1 ∙ sym (stays right right)) (t.2 ∙ sym (stays left right))
    where
      stays : (r c : Side)
          → (pairs_rotated n ls rs k (state_of n l e)).matrix (standing ls rs r k) (standing ls rs c k)
          ≡ (state_of n l e).matrix (standing ls rs r k) (standing ls rs c k)
      stays r c = entry_stays (state_of n l e) k k (le_refl k) below r c

-- ---- the step s, by the tangents of its pairs
module _ (n : ℕ) (order : is_order n ≡ true) (s : ℕ) (R : Registers) (stand : R ≡ registers_at n s) (tangents : List Root) (l e : List Float)
    (long : length l ≡ n * n)
    (f : (k : ℕ) → still_of n ≤ k → k < processors_of n
    → get_or tangents k no_tangent ≡ tangent_at (get_or R.left k 0) (get_or R.right k 0) (entry_of n l)) where
  before : {Y : Type 0} (find : Float → Float → Float → Y) (k : ℕ) → still_of n ≤ k → k < processors_of n
      → found_on find (get_or R.left k 0) (get_or R.right k 0) (entry_of n l)
      ≡ found_on find (get_or R.left k 0) (get_or R.right k 0) (pairs_rotated n R.left R.right k (state_of n l e)).matrix
  before find =
      found_before n R.left R.right (processors_of n) (rw stand (registers_paired n order s)) (rw stand (registers_apart n order s)) find l e long

  pub step_angles : (angles : List Angle)
      → ((k : ℕ) → still_of n ≤ k → k < processors_of n → get_or angles k no_angle ≡ angle_of (get_or tangents k no_tangent).value)
      → Angled n angles R.left R.right (state_of n l e) (processors_of n)
  unfolding of_tangent
  step_angles angles g k w below =
      ap of_angle (g k w below) ∙ by_tangent _ _ _ (ap (λ (t : Root). t.value) (f k w below)) ∙ before of_pair k w below

  pub step_exact : (k : ℕ) → still_of n ≤ k → k < processors_of n
      → exact_by (get_or tangents k no_tangent)
      ≡ exact_of (get_or R.left k 0) (get_or R.right k 0) (pairs_rotated n R.left R.right k (state_of n l e)).matrix
  step_exact k w below = ap exact_by (f k w below) ∙ pair_roots _ _ _ ∙ before exact_pair k w below
