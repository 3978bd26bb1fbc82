-- Document 02 (v), covariances at the top of the range: ξ is (d / 2 - a / 2) / b, where document 01 had
-- (d - a) / (2 b), each operation rounded. That the parameters are found by it is stated on the page `Report`.
-- Definitions only.
use Rattle.std.specs.Prelude.{ℕ, ◌-◌, ◌≤◌, ◌≡◌, Bool, true, false, ◌||◌, List, [], ◌∷◌, T, get_or, Float}
use Rattle.std.specs.Float.{binary64}
use Rattle.std.specs.Float.Ieee.{fits, sub, mul, div, le, is_nan, of_bits}
use Rattle.float64.specs.Values.{two, finite, is_zero, magnitude}
use Rattle.refusal.specs.Answers.{given}
use Rattle.rotation.specs.declared.Parameters.TheVariants.{Turn}
use Rattle.rotation.specs.Rotation.{of_pair}
use Rattle.sizes.specs.Sizes.{processors_of}
use Rattle.step_records.specs.declared.Record.{Record}
use Rattle.step_records.specs.Records.{records_of}
use Rattle.claims.specs.Histories.{Binary64}

-- ---- where ξ keeps its bits
-- Zero, of either sign, or at least 2 ^ -1021 in magnitude.
abbrev pub zero_or_at_least : Float → Bool
zero_or_at_least x = is_zero x || le (of_bits binary64 0x0020_0000_0000_0000) (magnitude x)

-- Wherever d - a and 2 b are finite and each of a and d is zero or at least 2 ^ -1021 in magnitude, the two are one
-- value. This is for every a, d and b of binary64; where b is zero ξ is not found, and the two agree all the same.
abbrev pub KeepsItsBits : Type 0
KeepsItsBits =
    (a d b : Float) → T (fits binary64 a) → T (fits binary64 d) → T (fits binary64 b)
    → finite (sub binary64 d a) ≡ true
    → finite (mul binary64 two b) ≡ true
    → zero_or_at_least a ≡ true → zero_or_at_least d ≡ true
    → div binary64 (sub binary64 (div binary64 d two) (div binary64 a two)) b
    ≡ div binary64 (sub binary64 d a) (mul binary64 two b)

-- ---- where it does not
-- The conditions in their order: d - a, 2 b, a and d.
abbrev pub conditions_of : Float → Float → Float → List Bool
conditions_of a d b =
    finite (sub binary64 d a) ∷ finite (mul binary64 two b) ∷ zero_or_at_least a ∷ zero_or_at_least d ∷ []

-- For three patterns, which conditions they meet, and the patterns of the new ξ and of document 01's.
pub record Quotients (x y z : ℕ) (met : List Bool) (now before : ℕ) : Type 0 where
  pub conditions : conditions_of (of_bits binary64 x) (of_bits binary64 y) (of_bits binary64 z) ≡ met
  pub is : (let a = of_bits binary64 x in
      let d = of_bits binary64 y in
      let b = of_bits binary64 z in
      div binary64 (sub binary64 (div binary64 d two) (div binary64 a two)) b ≡ of_bits binary64 now)
  pub was : (let a = of_bits binary64 x in
      let d = of_bits binary64 y in
      let b = of_bits binary64 z in
      div binary64 (sub binary64 d a) (mul binary64 two b) ≡ of_bits binary64 before)

-- No condition can be left out, and 2 ^ -1021 can't be smaller: each of these fails one and meets the others.
pub record BitsThatChange : Type 0 where
  -- a is -2 ^ 1023, d is 2 ^ 1023 and b is 2 ^ 1022: ξ is 2, and was infinite.
  pub infinite_difference : Quotients 0xffe0_0000_0000_0000 0x7fe0_0000_0000_0000 0x7fd0_0000_0000_0000
      (false ∷ true ∷ true ∷ true ∷ []) 0x4000_0000_0000_0000 0x7ff0_0000_0000_0000
  -- Document 02's own: a is 0, d is 2 ^ 1022 and b is 2 ^ 1023. ξ is 1 / 4, and was 0.
  pub infinite_double : Quotients 0 0x7fd0_0000_0000_0000 0x7fe0_0000_0000_0000
      (true ∷ false ∷ true ∷ true ∷ []) 0x3fd0_0000_0000_0000 0
  -- a is subnormal, 2 ^ -1074, d is 0 and b is 2 ^ -1074: half of a rounds to 0. ξ is 0, and was -1 / 2.
  pub subnormal_left : Quotients 1 0 1 (true ∷ true ∷ false ∷ true ∷ []) 0 0xbfe0_0000_0000_0000
  -- a is 0, and d and b are 2 ^ -1074: ξ is 0, and was 1 / 2.
  pub subnormal_right : Quotients 0 1 1 (true ∷ true ∷ true ∷ false ∷ []) 0 0x3fe0_0000_0000_0000
  -- a is the value before 2 ^ -1021, d is 0 and b is 2 ^ -1022: half of a rounds up. ξ is -1, and was the value after
  -- it towards 0.
  pub just_below : Quotients 0x001f_ffff_ffff_ffff 0 0x0010_0000_0000_0000
      (true ∷ true ∷ false ∷ true ∷ []) 0xbff0_0000_0000_0000 0xbfef_ffff_ffff_ffff

-- ---- finite entries
-- Where a, d and b are finite and b is not zero, ξ is a number; document 01's was none where both d - a and 2 b were
-- infinite. So the pair has no t, c or s that isn't one: it is still, or turns by three finite values.
pub record FiniteEntriesTurn : Type 0 where
  pub number : (a d b : Float) → T (fits binary64 a) → T (fits binary64 d)
      → finite a ≡ true → finite d ≡ true → finite b ≡ true → is_zero b ≡ false
      → is_nan (div binary64 (sub binary64 (div binary64 d two) (div binary64 a two)) b) ≡ false
  pub turn : (a d b : Float) → T (fits binary64 a) → T (fits binary64 d)
      → finite a ≡ true → finite d ≡ true → finite b ≡ true
      → (t c s : Float) → of_pair a d b ≡ Turn t c s
      → (finite t ≡ true) × (finite c ≡ true) × (finite s ≡ true)

-- A call for the records of a step refuses a matrix that isn't finite, so all that it writes is finite. k is a
-- processor's number, and other is what stands where there is no record.
abbrev pub RecordsAreFinite : Type 0
RecordsAreFinite =
    (n : ℕ) (l : List Float) (step : ℕ) (ys : List Record) (other : Record) → Binary64 l
    → (records_of n l step ys).answer ≡ given tt → (k : ℕ) → 1 ≤ k → k ≤ processors_of n
    → (let found = get_or (records_of n l step ys).row (k - 1) other in
    (finite found.t ≡ true) × (finite found.c ≡ true) × (finite found.s ≡ true))

pub record QuotientsAsStated : Type 0 where
  pub keeps_its_bits : KeepsItsBits
  pub bits_that_change : BitsThatChange
  pub finite_entries_turn : FiniteEntriesTurn
  pub records_are_finite : RecordsAreFinite
