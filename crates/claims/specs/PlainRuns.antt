-- Document 01, "Plain run" and the call for a whole step, and document 02 (ii), (vi) and (vii). Definitions only.
use Rattle.std.specs.Prelude.{ℕ, zero, suc, ◌-◌, ◌≤◌, ◌≡◌, Bool, true, false, cond, ◌&&◌, List, ◌⊎◌, eqb, get_or, Float}
use Rattle.float64.specs.Values.{plus_zero, one, finite}
use Rattle.refusal.specs.Answers.{given}
use Rattle.rotation.specs.declared.Parameters.{Parameters}
use Rattle.rotation.specs.declared.Parameters.TheVariants.{Still, Turn}
use Rattle.ordering.specs.declared.PairList.{PairList}
use Rattle.sizes.specs.Sizes.{is_order, processors_of, first_line, steps_of}
use Rattle.ordering.specs.Pairs.{Lists}
use Rattle.matrix.specs.Matrix.{at}
use Rattle.matrix_turns.specs.Turns.{parameters_of, exact_of}
use Rattle.runs.specs.State.{State, start_of}
use Rattle.runs.specs.Outcome.{Report}
use Rattle.plain_pair.specs.Pair.{pair_rotated}
use Rattle.plain_run.specs.State.{after, spoiled}
use Rattle.plain_run.specs.Quiet.{answered_run_of}
use Rattle.step_records.specs.declared.Record.{Record}
use Rattle.step_records.specs.Records.{records_of}
use Rattle.claims.specs.Refusals.{InSquare}
use Rattle.claims.specs.Report.{FirstOfOdd, left_register, right_register}
use Rattle.claims.specs.Histories.{CovarianceMatrix}

-- ---- plain run
-- The pairs of the processors 1 to k in that order, each before the next begins. The left register is p, even if its
-- number is the larger. What one pair does is stated on the page `Report`.
unfoldable pub processors_turned : ℕ → PairList → ℕ → State → State
processors_turned n list zero X = X
processors_turned n list (suc k) X =
    pair_rotated n k (left_register list (suc k)) (right_register list (suc k)) (processors_turned n list k X)

-- The matrix and the eigenvectors of a run, as lent and the identity at first, line 0 +0 throughout both, and after
-- each step.
pub record StepsInOrder (n : ℕ) (list : ℕ → PairList) : Type 0 where
  pub matrix_at_first : (l : List Float) (r c : ℕ) → 1 ≤ r → 1 ≤ c → (after n 0 (start_of n l)).matrix r c ≡ at n l r c
  pub vectors_at_first : (l : List Float) (r c : ℕ) → 1 ≤ r → 1 ≤ c
      → (after n 0 (start_of n l)).vectors r c ≡ cond (eqb r c) one plus_zero
  pub line_0_at_first : (l : List Float) (r c : ℕ) → (r ≡ 0) ⊎ (c ≡ 0)
      → ((after n 0 (start_of n l)).matrix r c ≡ plus_zero) × ((after n 0 (start_of n l)).vectors r c ≡ plus_zero)
  pub one_more_step : (k : ℕ) (X : State)
      → after n (suc k) X ≡ processors_turned n (list k) (processors_of n) (after n k X)

abbrev pub PlainSteps : Type 0
PlainSteps = (n : ℕ) → is_order n ≡ true → (list : ℕ → PairList) → ((k : ℕ) → Lists n k (list k)) → StepsInOrder n list

-- A run that is not refused leaves the two matrices after the K steps of all S sweeps, however many it makes, the real
-- lines 1 to n of them.
abbrev pub RunLeavesLastStep : Type 0
RunLeavesLastStep =
    (n sweeps : ℕ) (l r v : List Float) (reported : Report) → (answered_run_of n sweeps l r v).answer ≡ given reported
    → (i j : ℕ) → InSquare n i j
    → (at n (answered_run_of n sweeps l r v).result i j ≡ (after n (steps_of n sweeps) (start_of n l)).matrix i j)
    × (at n (answered_run_of n sweeps l r v).vectors i j ≡ (after n (steps_of n sweeps) (start_of n l)).vectors i j)

-- An entry of either matrix isn't finite, in the lines from a first to n.
pub record NotFiniteIn (first n : ℕ) (X : State) : Type 0 where
  pub line_row : ℕ
  pub line_column : ℕ
  pub row_within : (first ≤ line_row) × (line_row ≤ n)
  pub column_within : (first ≤ line_column) × (line_column ≤ n)
  pub not_finite : (finite (X.matrix line_row line_column) && finite (X.vectors line_row line_column)) ≡ false

-- After some step, from 1, an entry isn't finite; line 0 of an odd order counts.
pub record NotFiniteAfter (n K : ℕ) (X : State) : Type 0 where
  pub step : ℕ
  pub step_above : 1 ≤ step
  pub step_within : step ≤ K
  pub entry : NotFiniteIn (first_line n) n (after n step X)

-- After any step of a run an entry of line 0 isn't finite only where one of a real line isn't.
pub record SpoiledMeans : Type 0 where
  pub is_spoiled : (n K : ℕ) (X : State) → NotFiniteAfter n K X → spoiled n K X ≡ true
  pub spoiled_is : (n K : ℕ) (X : State) → spoiled n K X ≡ true → NotFiniteAfter n K X
  pub real_line : (n step : ℕ) (l : List Float) → is_order n ≡ true → CovarianceMatrix n l
      → NotFiniteIn (first_line n) n (after n step (start_of n l))
      → NotFiniteIn 1 n (after n step (start_of n l))

-- ---- the records of a step
-- Still is recorded as +0, 1, +0. A record says besides whether both roots of the pair were exact.
abbrev pub recorded : Parameters → Bool → Record
recorded Still exact = record { t = plus_zero; c = one; s = plus_zero; exact = exact }
recorded (Turn t c s) exact = record { t = t; c = c; s = s; exact = exact }

-- Record k is processor k's, found from the matrix as lent, and record 1 of an odd order is still and exact. other is
-- what stands where there is no record.
abbrev pub RecordsFound : Type 0
RecordsFound =
    (n : ℕ) (l : List Float) (step : ℕ) (ys : List Record) (other : Record) (list : PairList)
    → (records_of n l step ys).answer ≡ given tt → Lists n step list → (k : ℕ) → 1 ≤ k → k ≤ processors_of n
    → (let found = get_or (records_of n l step ys).row (k - 1) other in
    let p = left_register list k in
    let q = right_register list k in
    (¬ FirstOfOdd n k → found ≡ recorded (parameters_of p q (at n l)) (exact_of p q (at n l)))
    × (FirstOfOdd n k → found ≡ recorded Still true))

pub record PlainRunsAsStated : Type 0 where
  pub plain_steps : PlainSteps
  pub run_leaves_last_step : RunLeavesLastStep
  pub spoiled_means : SpoiledMeans
  pub records_found : RecordsFound
