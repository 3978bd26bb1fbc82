-- Demand 3 (document 00; document 01, "The array", "Neighbourhood", "Runs by hand"; document 02 (ii), (vi) and (vii)),
-- one statement for each of its parts. Definitions only.
use Rattle.std.specs.Prelude.{ℕ, zero, suc, ◌+◌, ◌-◌, ◌*◌, ◌/◌, ◌%◌, ◌^◌, ◌≤◌, ◌<◌, ◌≡◌, true, false, not, cond, List, [], T, eqb, ltb, length, get_or, Float}
use Rattle.std.specs.Float.{nan, binary64}
use Rattle.std.specs.Float.Ieee.{fits, to_bits}
use Rattle.float64.specs.Values.{finite}
use Rattle.refusal.specs.Answers.{Answered, given, refused, answered}
use Rattle.lists.specs.Bounded.{count}
use Rattle.ordering.specs.declared.PairList.{PairList}
use Rattle.sizes.specs.Sizes.{is_order, processors_of, sweep_steps, steps_of, ticks_of}
use Rattle.ordering.specs.Pairs.{Lists, meet_in_list}
use Rattle.matrix.specs.Matrix.{at, flat}
use Rattle.runs.specs.State.{start_of}
use Rattle.runs.specs.Outcome.{Outcome, Report, outcome}
use Rattle.plain_run.specs.State.{after, spoiled}
use Rattle.plain_run.specs.Quiet.{report_of, answered_run_of}
use Rattle.tile_schedule.specs.Answers.{made, stopped}
use Rattle.array.specs.declared.Array.{Array}
use Rattle.array.specs.declared.Started.{Started}
use Rattle.array.specs.declared.Ticked.{Ticked}
use Rattle.array.specs.Arrays.{tile_at, Ticks}
use Rattle.array.specs.Runs.{no_array}
use Rattle.array_run.specs.Results.{WholeReport, reporting, matrix_in, vectors_in, some_marked}
use Rattle.array_run.specs.Whole.{whole_of}
use Rattle.array_agreement.specs.Hand.{last_array, ByHand, answers_of, counted}
use Rattle.array_agreement.specs.Neighbours.{Agree}

-- Every value is one of binary64, as the values of a lent slice are.
abbrev pub Binary64 : List Float → Type 0
Binary64 l = (k : ℕ) → T (fits binary64 (get_or l k nan))

-- ---- one call makes the run
-- What the plain run answers and leaves, and beside what it reports the ticks of as many sweeps.
abbrev pub answer_timed : ℕ → Answered Report → Answered WholeReport
answer_timed n (given r) = given (reporting r (ticks_of n r.sweeps))
answer_timed n (refused k values) = refused k values

abbrev pub timed : ℕ → Outcome Report → Outcome WholeReport
timed n o = outcome (answer_timed n o.answer) o.result o.vectors

-- Lent alike, the whole run leaves in both results what the plain run leaves, refuses what it refuses by the same
-- number and place, 8 included, and where it is not refused reports the same sweeps and the same number of pairs with a
-- rounded root, and 3 K + N ticks. This is for every order, every number of sweeps and every matrix.
abbrev pub WholeRunIsThePlainRun : Type 0
WholeRunIsThePlainRun =
    (n sweeps : ℕ) (l r v : List Float) → Binary64 l
    → whole_of n sweeps l r v ≡ timed n (answered_run_of n sweeps l r v)

-- The ticks reported are 3 K + N of the sweeps reported.
abbrev pub TicksReported : Type 0
TicksReported =
    (n sweeps : ℕ) (l r v : List Float) → Binary64 l
    → (reported : WholeReport) → (whole_of n sweeps l r v).answer ≡ given reported
    → reported.ticks ≡ ticks_of n reported.report.sweeps

-- Bit k of a value, from 0, and the number of bits in which two values differ, and the first m values of two lists.
abbrev pub bit_of : ℕ → Float → ℕ
bit_of k x = to_bits binary64 x / 2 ^ k % 2

abbrev pub differing : Float → Float → ℕ
differing x y = count (λ k. not (eqb (bit_of k x) (bit_of k y))) 64

unfoldable pub differing_in : ℕ → List Float → List Float → ℕ
differing_in zero l m = 0
differing_in (suc k) l m = differing_in k l m + differing (get_or l k nan) (get_or m k nan)

-- A finite matrix of order n with bit-equal mirror entries.
pub record CovarianceMatrix (n : ℕ) (l : List Float) : Type 0 where
  pub of_binary64 : Binary64 l
  pub long : length l ≡ n * n
  pub all_finite : (i j : ℕ) → (1 ≤ i) × (i ≤ n) → (1 ≤ j) × (j ≤ n) → finite (at n l i j) ≡ true
  pub mirrored : (i j : ℕ) → (1 ≤ i) × (i ≤ n) → (1 ≤ j) × (j ≤ n) → at n l i j ≡ at n l j i

-- For each order from 2 to 32, even or odd, each number of sweeps from 0 to 16 and each such matrix whose plain run
-- stays finite, the count of bits in which the array's final matrix and eigenvectors differ from those of the plain
-- sweeps is zero. r and v are the plain run's results and r' and v' the array's, whatever they held.
abbrev pub NoBitDiffers : Type 0
NoBitDiffers =
    (n sweeps : ℕ) (l r v r' v' : List Float)
    → is_order n ≡ true
    → sweeps ≤ 16
    → CovarianceMatrix n l
    → length r ≡ n * n → length v ≡ n * n → length r' ≡ n * n → length v' ≡ n * n
    → spoiled n (steps_of n sweeps) (start_of n l) ≡ false
    → (differing_in (n * n) (whole_of n sweeps l r' v').result (answered_run_of n sweeps l r v).result ≡ 0)
    × (differing_in (n * n) (whole_of n sweeps l r' v').vectors (answered_run_of n sweeps l r v).vectors ≡ 0)
    × (let report = report_of n sweeps (start_of n l) in
    ((whole_of n sweeps l r' v').answer ≡ given (reporting report (ticks_of n report.sweeps)))
    × ((answered_run_of n sweeps l r v).answer ≡ given report))

-- ---- a start and then any list of ticks
-- The ticks are listed with the last first. `last_array` is the record that the last call gave, `answers_of` what the
-- ticks answered, and `counted f k` is f 0 to f (k - 1), the last first. After a refused start every tick is refused by
-- 1 and gives the zeros back.
pub record RefusedStart (s : Started) (rs : List Ticked) : Type 0 where
  pub each_refused_by_1 : answers_of rs ≡ counted (λ t. refused 1 []) (length rs)
  pub zeros_back : last_array s rs ≡ no_array

-- Once all are made, and the plain run stays finite, the cells are its two final matrices, each entry of a real line at
-- its row and column, and no tile is marked; if it is spoiled, some tile is marked.
pub record AllMade (n sweeps : ℕ) (l : List Float) (x : Array) : Type 0 where
  pub matrix_agrees : spoiled n (steps_of n sweeps) (start_of n l) ≡ false
      → (r c : ℕ) → (1 ≤ r) × (r ≤ n) → (1 ≤ c) × (c ≤ n)
      → matrix_in n x.tiles r c ≡ (after n (steps_of n sweeps) (start_of n l)).matrix r c
  pub vectors_agree : spoiled n (steps_of n sweeps) (start_of n l) ≡ false
      → (r c : ℕ) → (1 ≤ r) × (r ≤ n) → (1 ≤ c) × (c ≤ n)
      → vectors_in n x.tiles r c ≡ (after n (steps_of n sweeps) (start_of n l)).vectors r c
  pub none_marked : spoiled n (steps_of n sweeps) (start_of n l) ≡ false → some_marked (processors_of n) x.tiles ≡ false
  pub some_marked_lem : spoiled n (steps_of n sweeps) (start_of n l) ≡ true → some_marked (processors_of n) x.tiles ≡ true

-- After an accepted start the first 3 K + N ticks are made and the rest are stopped.
pub record AcceptedStart (n sweeps : ℕ) (l : List Float) (s : Started) (rs : List Ticked) : Type 0 where
  pub made_then_stopped : answers_of rs
      ≡ counted (λ t. cond (ltb t (ticks_of n sweeps)) (given made) (given stopped)) (length rs)
  pub all_made : ticks_of n sweeps ≤ length rs → AllMade n sweeps l (last_array s rs)

-- A single claim over every list.
abbrev pub EveryRunByHand : Type 0
EveryRunByHand =
    (n sweeps : ℕ) (l : List Float) → Binary64 l
    → (s : Started) (rs : List Ticked) → ByHand n sweeps l s rs
    → (answered s.answer ≡ given tt → AcceptedStart n sweeps l s rs)
    × ((k : ℕ) (values : List ℕ) → answered s.answer ≡ refused k values → RefusedStart s rs)

-- The same in bits: the matrices in the cells and the plain run's.
abbrev pub NoBitDiffersByHand : Type 0
NoBitDiffersByHand =
    (n sweeps : ℕ) (l r v : List Float) (s : Started) (rs : List Ticked) (reported : Report)
    → Binary64 l
    → ByHand n sweeps l s rs
    → ticks_of n sweeps ≤ length rs
    → (answered_run_of n sweeps l r v).answer ≡ given reported
    → (differing_in (n * n) (flat n (matrix_in n (last_array s rs).tiles)) (answered_run_of n sweeps l r v).result ≡ 0)
    × (differing_in (n * n) (flat n (vectors_in n (last_array s rs).tiles)) (answered_run_of n sweeps l r v).vectors ≡ 0)

-- ---- neighbourhood
-- Whatever all other tiles hold, two arrays alike in order, sweeps, tick, one tile and the wires that lead to it are
-- alike in that tile, and so in its outgoing wires, after the tick.
abbrev pub Neighbourhood : Type 0
Neighbourhood =
    (x y : Array) → x.n ≡ y.n → x.sweeps ≡ y.sweeps → x.tick ≡ y.tick
    → (r s : Ticked) → Ticks x r → Ticks y s
    → (i j : ℕ) → i < processors_of x.n → j < processors_of x.n
    → Agree (processors_of x.n) x.tiles y.tiles i j
    → tile_at r.array.tiles i j ≡ tile_at s.array.tiles i j

-- ---- meetings
-- In every sweep, from 1, any two different real lines meet exactly once in the lists of pairs that the call gives. The
-- steps of a sweep are on the page `Sizes`.
abbrev pub MeetOnce : Type 0
MeetOnce =
    (n : ℕ) → is_order n ≡ true
    → (list : ℕ → PairList) → ((step : ℕ) → Lists n step (list step))
    → (sweep p q : ℕ) → 1 ≤ sweep → 1 ≤ p → p ≤ n → 1 ≤ q → q ≤ n → ¬ (p ≡ q)
    → count (λ step. meet_in_list (list ((sweep - 1) * sweep_steps n + step)).registers p q) (sweep_steps n) ≡ 1

pub record OneHistory : Type 0 where
  pub whole_run_is_the_plain_run : WholeRunIsThePlainRun
  pub ticks_reported : TicksReported
  pub no_bit_differs : NoBitDiffers
  pub every_run_by_hand : EveryRunByHand
  pub no_bit_differs_by_hand : NoBitDiffersByHand
  pub neighbourhood : Neighbourhood
  pub meet_once : MeetOnce
