-- Demand 2 on numbers (document 00; document 01, "Square root", "One rotation", "Pairs and their movement"; document 02
-- (ii), (iv), (v) and (vii)). Definitions only.
use Rattle.std.specs.Prelude.{ℕ, suc, ◌+◌, ◌-◌, ◌*◌, ◌%◌, ◌^◌, ◌≤◌, ◌<◌, ◌≡◌, true, false, cond, T, get_or, Float}
use Rattle.std.specs.Float.{nan, inf, binary64}
use Rattle.std.specs.Float.Ieee.{fits, neg, add, sub, mul, div, lt, of_bits, to_bits}
use Rattle.float64.specs.Values.{plus_zero, one, two, finite, is_zero, magnitude}
use Rattle.float64.specs.Units.{units_of}
use Rattle.refusal.specs.Answers.{given}
use Rattle.root.specs.Exact.{exact_root, sqrt_answer}
use Rattle.rotation.specs.declared.Parameters.{Parameters}
use Rattle.rotation.specs.declared.Parameters.TheVariants.{Still, Turn}
use Rattle.rotation.specs.Rotation.{root_of, signum, of_pair}
use Rattle.matrix_turns.specs.Turns.{parameters_of}
use Rattle.runs.specs.State.{State}
use Rattle.plain_pair.specs.Pair.{pair_rotated}
use Rattle.ordering.specs.declared.PairList.{PairList}
use Rattle.sizes.specs.Sizes.{is_order, processors_of, sweep_steps}
use Rattle.ordering.specs.Pairs.{stands_in, Lists}

-- ---- square root
abbrev pub minus_zero : Float
minus_zero = of_bits binary64 0x8000_0000_0000_0000

-- A root is answered beside a flag that says whether it is exact.
abbrev pub GivesItself : Float → Type 0
GivesItself x = sqrt_answer x ≡ given (x, true)

-- Counted in units of 2 ^ -1074 the exact root of x is the root of the whole number units_of x * 2 ^ 1074. Whatever
-- other f64 y is taken, the middle of r and y lies beyond that root, on the side of y: so r is nearer to it, and there
-- is no tie.
abbrev pub Nearest : Float → Float → Type 0
Nearest x r =
    (y : Float) → T (finite y) → T (fits binary64 y)
    → (units_of r < units_of y → 4 * (units_of x * 2 ^ 1074) < (units_of r + units_of y) * (units_of r + units_of y))
    × (units_of y < units_of r → (units_of r + units_of y) * (units_of r + units_of y) < 4 * (units_of x * 2 ^ 1074))

-- r is the answer for x: a finite f64 that is not negative, nearest to the exact root. What the flag beside it says is
-- on the page `ExactRoots`.
pub record CorrectlyRounded (x r : Float) : Type 0 where
  pub answer : sqrt_answer x ≡ given (r, exact_root x)
  pub is_finite : T (finite r)
  pub not_negative : lt r plus_zero ≡ false
  pub of_binary64 : T (fits binary64 r)
  pub nearest : Nearest x r

-- The zeros and +infinity give themselves, exactly; every other f64 that has a root gives the correctly rounded one.
pub record RootRoundsCorrectly : Type 0 where
  pub plus_zero_lem : GivesItself plus_zero
  pub minus_zero_lem : GivesItself minus_zero
  pub infinity : GivesItself (inf false)
  pub above_zero : (x : Float) → T (finite x) → T (fits binary64 x) → lt plus_zero x ≡ true
      → (r : Float) × CorrectlyRounded x r

-- ---- rotation
-- a is a_pp, d is a_qq, b is a_pq. The steps are those of document 003, (5.1), in that order, with ξ by halves as
-- document 02 (v) has it: half of d, half of a, difference, quotient (ξ), tangent, cosine, sine.
abbrev pub TurnsByTheReport : Type 0
TurnsByTheReport =
    (a d b : Float) → is_zero b ≡ false
    → (let half-d = div binary64 d two in
    let half-a = div binary64 a two in
    let difference = sub binary64 half-d half-a in
    let ξ = div binary64 difference b in
    let t = div binary64 (signum ξ) (add binary64 (magnitude ξ) (root_of (add binary64 one (mul binary64 ξ ξ)))) in
    let c = div binary64 one (root_of (add binary64 one (mul binary64 t t))) in
    let s = mul binary64 t c in
    of_pair a d b ≡ cond (is_zero t) Still (Turn t c s))

-- r is none of the two lines.
abbrev pub Other : ℕ → ℕ → ℕ → Type 0
Other p q r = (¬ (r ≡ p)) × (¬ (r ≡ q))

-- The columns p and q of a matrix turned, in the rows that In names: two products and then the sum.
pub record ColumnsTurned (In : ℕ → Type 0) (c s : Float) (p q : ℕ) (old new : ℕ → ℕ → Float) : Type 0 where
  pub column_left : (r : ℕ) → In r → new r p ≡ sub binary64 (mul binary64 c (old r p)) (mul binary64 s (old r q))
  pub column_right : (r : ℕ) → In r → new r q ≡ add binary64 (mul binary64 s (old r p)) (mul binary64 c (old r q))

-- The matrix of a pair that turns, from old to new.
pub record MatrixTurned (t c s : Float) (p q : ℕ) (old new : ℕ → ℕ → Float) : Type 0 where
  pub new_left : new p p ≡ sub binary64 (old p p) (mul binary64 t (old p q))
  pub new_right : new q q ≡ add binary64 (old q q) (mul binary64 t (old p q))
  pub row_left : (r : ℕ) → Other p q r → new p r ≡ sub binary64 (mul binary64 c (old p r)) (mul binary64 s (old q r))
  pub row_right : (r : ℕ) → Other p q r → new q r ≡ add binary64 (mul binary64 s (old p r)) (mul binary64 c (old q r))
  pub columns : ColumnsTurned (Other p q) c s p q old new
  pub others : (i j : ℕ) → Other p q i → Other p q j → new i j ≡ old i j

-- New a_pq and a_qp are +0, still or not.
abbrev pub Cleared : ℕ → ℕ → (ℕ → ℕ → Float) → Type 0
Cleared p q new = (new p q ≡ plus_zero) × (new q p ≡ plus_zero)

-- What a pair with the parameters P does to the matrix and to the eigenvectors, which get the column turn on all rows.
-- A still pair changes none of these.
pub record PairByTheReport (P : Parameters) (p q : ℕ) (old new : State) : Type 0 where
  pub cleared : Cleared p q new.matrix
  pub matrix_turned : (t c s : Float) → P ≡ Turn t c s → MatrixTurned t c s p q old.matrix new.matrix
  pub vectors_turned : (t c s : Float) → P ≡ Turn t c s
      → ColumnsTurned (λ r. Unit) c s p q old.vectors new.vectors
  pub vectors_kept : (r j : ℕ) → Other p q j → new.vectors r j ≡ old.vectors r j
  pub still_matrix : P ≡ Still
      → (i j : ℕ) → ¬ ((i ≡ p) × (j ≡ q)) → ¬ ((i ≡ q) × (j ≡ p))
      → new.matrix i j ≡ old.matrix i j
  pub still_vectors : P ≡ Still → (r j : ℕ) → new.vectors r j ≡ old.vectors r j

-- Processor k, from 1, is processor 1 of an odd order n.
abbrev pub FirstOfOdd : ℕ → ℕ → Type 0
FirstOfOdd n k = (n % 2 ≡ 1) × (k ≡ 1)

pub record RotationIsTheReports : Type 0 where
  pub turns : TurnsByTheReport
  -- Processor k turns by the parameters of its pair, but processor 1 of an odd order is always still, whatever the
  -- matrix holds.
  pub pair : (n k p q : ℕ) → 1 ≤ k → ¬ FirstOfOdd n k → ¬ (p ≡ q)
      → (X : State) → PairByTheReport (parameters_of p q X.matrix) p q X (pair_rotated n (k - 1) p q X)
  pub first_of_odd : (n k p q : ℕ) → FirstOfOdd n k → ¬ (p ≡ q)
      → (X : State) → PairByTheReport Still p q X (pair_rotated n (k - 1) p q X)
  pub still : (a d b : Float) → is_zero b ≡ true → of_pair a d b ≡ Still
  -- sign(ξ) is -1 below zero, and 1 if ξ is zero of either sign or above
  pub sign_below : (ξ : Float) → lt ξ plus_zero ≡ true → signum ξ ≡ neg one
  pub sign_of_zero : (ξ : Float) → is_zero ξ ≡ true → signum ξ ≡ one
  pub sign_above : (ξ : Float) → lt plus_zero ξ ≡ true → signum ξ ≡ one
  -- if ξ isn't a number, neither are t, c and s, and what isn't a number has the bits 7FF8000000000000
  pub not_a_number : (a d b : Float) → is_zero b ≡ false
      → div binary64 (sub binary64 (div binary64 d two) (div binary64 a two)) b ≡ nan
      → of_pair a d b ≡ Turn nan nan nan
  pub nan_bits_lem : to_bits binary64 nan ≡ 0x7ff8_0000_0000_0000

-- ---- pairs
-- The line in the left and in the right register of processor k, from 1, in a list.
abbrev pub left_register : PairList → ℕ → ℕ
left_register r k = get_or r.registers.left (k - 1) 0

abbrev pub right_register : PairList → ℕ → ℕ
right_register r k = get_or r.registers.right (k - 1) 0

-- Left k starts at the line l k, and right k at r k.
abbrev pub StartsAt : ℕ → PairList → (ℕ → ℕ) → (ℕ → ℕ) → Type 0
StartsAt n list l r =
    (k : ℕ) → 1 ≤ k → k ≤ processors_of n → (left_register list k ≡ l k) × (right_register list k ≡ r k)

-- The lists that the call gives for an order, one for each step from 0, after document 003, section 3.
pub record MovesByTheReport (n : ℕ) (list : ℕ → PairList) : Type 0 where
  pub even_at_first : n % 2 ≡ 0 → StartsAt n (list 0) (λ k. 2 * k - 1) (λ k. 2 * k)
  pub odd_at_first : n % 2 ≡ 1 → StartsAt n (list 0) (λ k. 2 * k - 2) (λ k. 2 * k - 1)
  pub left_1_stays : (s : ℕ) → left_register (list (suc s)) 1 ≡ left_register (list s) 1
  pub right_1_to_left_2 : (s : ℕ) → 2 ≤ processors_of n → left_register (list (suc s)) 2 ≡ right_register (list s) 1
  pub left_to_the_next : (s k : ℕ) → 2 ≤ k → k < processors_of n
      → left_register (list (suc s)) (k + 1) ≡ left_register (list s) k
  pub last_left_to_right : (s : ℕ) → 2 ≤ processors_of n
      → right_register (list (suc s)) (processors_of n) ≡ left_register (list s) (processors_of n)
  pub right_to_the_one_before : (s k : ℕ) → 2 ≤ k → k ≤ processors_of n
      → right_register (list (suc s)) (k - 1) ≡ right_register (list s) k
  pub nothing_moves_for_2 : (s : ℕ) → n ≡ 2 → right_register (list (suc s)) 1 ≡ right_register (list s) 1
  pub zeros_above : (s k : ℕ) → processors_of n < k → (left_register (list s) k ≡ 0) × (right_register (list s) k ≡ 0)
  pub line_0_in_left_1 : (s : ℕ) → n % 2 ≡ 1 → left_register (list s) 1 ≡ 0
  pub repeats : (s : ℕ) → (list (s + sweep_steps n)).registers ≡ (list s).registers
  pub each_line_once : (s p : ℕ) → 1 ≤ p → p ≤ n → stands_in (list s).registers p ≡ 1

abbrev pub PairingIsTheReports : Type 0
PairingIsTheReports =
    (n : ℕ) → is_order n ≡ true
    → (list : ℕ → PairList) → ((s : ℕ) → Lists n s (list s))
    → MovesByTheReport n list

pub record AsTheReport : Type 0 where
  pub root_rounds_correctly : RootRoundsCorrectly
  pub rotation_is_the_reports : RotationIsTheReports
  pub pairing_is_the_reports : PairingIsTheReports
