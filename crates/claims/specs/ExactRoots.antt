-- Document 02 (vii): exact or rounded roots. Steps count from 0, processors from 1. What a record of a step says is on
-- the page `PlainRuns`, that both runs report the same number of rounded pairs on the page `Histories`, that a refusal
-- carries none on the page `Refusals`, the count of a tile in a tick on the page `Tiles`. Definitions only.
use Rattle.std.specs.Prelude.{ℕ, ◌+◌, ◌-◌, ◌*◌, ◌%◌, ◌^◌, ◌≤◌, ◌<◌, ◌≡◌, Bool, true, false, not, ◌||◌, ◌&&◌, List, T, eqb, length, Float}
use Rattle.std.specs.Float.{binary64}
use Rattle.std.specs.Float.Ieee.{fits, add, sub, mul, div, lt, is_nan}
use Rattle.float64.specs.Values.{plus_zero, one, two, finite, is_zero, magnitude}
use Rattle.float64.specs.Units.{units_of}
use Rattle.refusal.specs.Answers.{given, answered}
use Rattle.lists.specs.Bounded.{count, total}
use Rattle.root.specs.Exact.{exact_root, sqrt_answer}
use Rattle.rotation.specs.declared.Parameters.TheVariants.{Still}
use Rattle.rotation.specs.Rotation.{root_of, signum, of_pair}
use Rattle.rotation.specs.Exact.{exact_pair, found_of}
use Rattle.ordering.specs.declared.PairList.{PairList}
use Rattle.ordering.specs.Pairs.{Lists}
use Rattle.sizes.specs.Sizes.{processors_of, steps_of, ticks_of}
use Rattle.matrix_turns.specs.Turns.{exact_of}
use Rattle.runs.specs.State.{State, start_of}
use Rattle.runs.specs.Outcome.{Report}
use Rattle.plain_run.specs.State.{after}
use Rattle.plain_run.specs.Quiet.{answered_run_of}
use Rattle.array.specs.declared.Started.{Started}
use Rattle.array.specs.declared.Ticked.{Ticked}
use Rattle.array_agreement.specs.Hand.{last_array, ByHand}
use Rattle.claims.specs.Histories.{Binary64}
use Rattle.claims.specs.PlainRuns.{processors_turned}
use Rattle.claims.specs.Report.{left_register, right_register}
use Rattle.claims.specs.Tiles.{tile_in}

-- ---- the square root
-- The root r of x is exact if its square is x: in units of 2 ^ -1074 both are whole numbers.
abbrev pub SquareIs : Float → Float → Type 0
SquareIs x r = units_of r * units_of r ≡ units_of x * 2 ^ 1074

-- Where the root of a finite x above zero answers r, and whether it is exact. IEEE 754-2019 has inexact signalled where
-- the result differs from the one without limits on range and precision: where that root is a / b units, for whole
-- numbers a and b, the flag is true exactly if r is a / b. Where there are no such numbers it is false, as r would give
-- some.
pub record Judged (x r : Float) (exact : Bool) : Type 0 where
  pub exact_means : exact ≡ true → SquareIs x r
  pub square_exact : SquareIs x r → exact ≡ true
  pub not_inexact : (a b : ℕ) → a * a ≡ units_of x * 2 ^ 1074 * (b * b) → 0 < b → exact ≡ true → a ≡ units_of r * b
  pub same_exact : (a b : ℕ) → a * a ≡ units_of x * 2 ^ 1074 * (b * b) → 0 < b → a ≡ units_of r * b → exact ≡ true

-- That the zeros and +infinity are exact is on the page `Report`, that a refused root says nothing of exactness on the
-- page `Refusals`, that 4 and 2 ^ -1074 are exact and 2 and 1 + 2 ^ -52 are not on the page `Examples`.
abbrev pub RootsJudged : Type 0
RootsJudged =
    (x r : Float) (exact : Bool) → T (finite x) → T (fits binary64 x) → lt plus_zero x ≡ true
    → sqrt_answer x ≡ given (r, exact) → Judged x r exact

-- ---- the parameters of a pair
-- The parameters of a pair, which are on the page `Report`, are answered beside whether both roots are exact. Still
-- with b zero counts as exact, a t that isn't a number as rounded. Every still pair is exact, so a pair with a rounded
-- root turns.
pub record PairsJudged : Type 0 where
  pub found : (a d b : Float) → found_of a d b ≡ record { parameters = of_pair a d b; exact = exact_pair a d b }
  pub b_zero : (a d b : Float) → is_zero b ≡ true → exact_pair a d b ≡ true
  pub t_not_a_number : (a d b : Float) → is_zero b ≡ false
      → (let ξ = div binary64 (sub binary64 (div binary64 d two) (div binary64 a two)) b in
      let t = div binary64 (signum ξ) (add binary64 (magnitude ξ) (root_of (add binary64 one (mul binary64 ξ ξ)))) in
      is_nan t ≡ true → exact_pair a d b ≡ false)
  pub both_roots : (a d b : Float) → is_zero b ≡ false
      → (let ξ = div binary64 (sub binary64 (div binary64 d two) (div binary64 a two)) b in
      let t = div binary64 (signum ξ) (add binary64 (magnitude ξ) (root_of (add binary64 one (mul binary64 ξ ξ)))) in
      is_nan t ≡ false
      → exact_pair a d b
      ≡ (exact_root (add binary64 one (mul binary64 ξ ξ)) && exact_root (add binary64 one (mul binary64 t t))))
  pub still_is_exact : (a d b : Float) → of_pair a d b ≡ Still → exact_pair a d b ≡ true
  pub rounded_turns : (a d b : Float) → exact_pair a d b ≡ false → ¬ (of_pair a d b ≡ Still)

-- ---- the pairs that a run meets
-- Whether the pair of processor k counts as exact in a step with this list of pairs: at its turn, once the processors
-- before it have had theirs. Processor 1 of an odd order does. X is before the step.
abbrev pub exact_at_its_turn : ℕ → PairList → ℕ → State → Bool
exact_at_its_turn n list k X =
    (eqb (n % 2) 1 && eqb k 1)
    || exact_of (left_register list k) (right_register list k) (processors_turned n list (k - 1) X).matrix

-- How many of the first K steps of a run from X meet processor k with a rounded root, and how many pairs have one.
abbrev pub rounded_for : ℕ → (ℕ → PairList) → ℕ → State → ℕ → ℕ
rounded_for n list K X k = count (λ step. not (exact_at_its_turn n (list step) k (after n step X))) K

abbrev pub rounded_met : ℕ → (ℕ → PairList) → ℕ → State → ℕ
rounded_met n list K X = total (processors_of n) (λ i. rounded_for n list K X (i + 1))

-- A run reports how many pairs it met had a rounded root, in the sweeps that it made. The early end changes no count:
-- over all S sweeps there are as many.
abbrev pub RoundedReported : Type 0
RoundedReported =
    (n sweeps : ℕ) (l r v : List Float) (list : ℕ → PairList) → ((step : ℕ) → Lists n step (list step))
    → (reported : Report) → (answered_run_of n sweeps l r v).answer ≡ given reported
    → (reported.rounded ≡ rounded_met n list (steps_of n reported.sweeps) (start_of n l))
    × (reported.rounded ≡ rounded_met n list (steps_of n sweeps) (start_of n l))

-- ---- the counts of the tiles
-- In a run by hand the tile of processor i + 1 counts its own over the whole run: once it has made z of its rotations
-- and no more, how many of the z steps had a rounded root.
abbrev pub TilesCountRounded : Type 0
TilesCountRounded =
    (n sweeps : ℕ) (l : List Float) → Binary64 l → (list : ℕ → PairList) → ((step : ℕ) → Lists n step (list step))
    → (t : Started) (rs : List Ticked) → ByHand n sweeps l t rs → answered t.answer ≡ given tt
    → (z i : ℕ) → i < processors_of n
    → z ≤ steps_of n sweeps → 3 * z < length rs + 3 → (z < steps_of n sweeps → length rs ≤ 3 * z)
    → (tile_in (last_array t rs) i i).kept.rounded ≡ rounded_for n list z (start_of n l) (i + 1)

-- Over every list of calls that makes all ticks, the counts of the diagonal together are what the plain run reports,
-- and where that is refused by 8 what all its steps met.
abbrev pub CountedByHand : Type 0
CountedByHand =
    (n sweeps : ℕ) (l : List Float) → Binary64 l → (list : ℕ → PairList) → ((step : ℕ) → Lists n step (list step))
    → (t : Started) (rs : List Ticked) → ByHand n sweeps l t rs → answered t.answer ≡ given tt
    → ticks_of n sweeps ≤ length rs
    → (let counted = total (processors_of n) (λ i. (tile_in (last_array t rs) i i).kept.rounded) in
    (counted ≡ rounded_met n list (steps_of n sweeps) (start_of n l))
    × ((r v : List Float) (reported : Report) → (answered_run_of n sweeps l r v).answer ≡ given reported
    → counted ≡ reported.rounded))

-- No run from a start comes near 65,535: after any ticks both counts of a tile on the diagonal are at most 512.
abbrev pub NeverNear : Type 0
NeverNear =
    (n sweeps : ℕ) (l : List Float) → Binary64 l
    → (t : Started) (rs : List Ticked) → ByHand n sweeps l t rs → answered t.answer ≡ given tt
    → (i : ℕ) → i < processors_of n
    → ((tile_in (last_array t rs) i i).kept.turns ≤ 512) × ((tile_in (last_array t rs) i i).kept.rounded ≤ 512)

pub record ExactRootsAsStated : Type 0 where
  pub roots_judged : RootsJudged
  pub pairs_judged : PairsJudged
  pub rounded_reported : RoundedReported
  pub tiles_count_rounded : TilesCountRounded
  pub counted_by_hand : CountedByHand
  pub never_near : NeverNear
