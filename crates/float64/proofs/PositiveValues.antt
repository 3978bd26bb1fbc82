-- The values above zero, by their patterns, and those that are finite. Assumes nothing.
use mathlib.Core.Path.{◌≡◌, refl, sym, ◌∙◌}
use mathlib.Core.Bool.{true, false, true≢false}
use Prim.Native.Nat.{◌≤◌, ◌<◌}
use native.Mathlib.Omega.{arith}
use lib.Dec.{T}
use lib.Ieee.{Float, nan, inf, fin, binary64, lt, fits, to_bits, of_bits}
use lib.Ieee.Positive.{positive, above}
use Rattle.float64.specs.Values.{plus_zero, finite}
use Rattle.float64.proofs.Zeros.{above_zero}
use Rattle.float64.proofs.Units.{positive_pattern}

pub finite_positive : (x : Float) → lt plus_zero x ≡ true → T (finite x) → positive x ≡ true
unfolding finite
finite_positive nan a f = absurd f
finite_positive (inf s) a f = absurd f
finite_positive (fin true m e) a f = absurd (true≢false (sym a ∙ above_zero (fin true m e)))
finite_positive (fin false m e) a f = sym (above_zero (fin false m e)) ∙ a

-- x < +infinity
pub below_infinity : (x : Float) → lt plus_zero x ≡ true → lt x (of_bits binary64 0x7ff0_0000_0000_0000) ≡ true → positive x ≡ true
unfolding lt of_bits
below_infinity nan a b = absurd (true≢false (sym b))
below_infinity (inf true) a b = absurd (true≢false (sym a))
below_infinity (inf false) a b = absurd (true≢false (sym b))
below_infinity (fin s m e) a b = finite_positive (fin s m e) a (unfold finite in tt)

-- ---- by their patterns
data Above (x : Float) : Type 0 where
  finite_value : positive x ≡ true → 0 < to_bits binary64 x → to_bits binary64 x < 0x7ff0_0000_0000_0000 → Above x
  infinity : finite x ≡ false → to_bits binary64 x ≡ 0x7ff0_0000_0000_0000 → Above x

by_case : (x : Float) → T (fits binary64 x) → above x ≡ true → Above x
unfolding finite to_bits
by_case nan f a = absurd (true≢false (sym a))
by_case (inf true) f a = absurd (true≢false (sym a))
by_case (inf false) f a = infinity refl refl
by_case (fin true m e) f a = absurd (true≢false (sym a))
by_case (fin false m e) f a = let p = positive_pattern (fin false m e) (rw a tt) f in finite_value a p.0 p.1

module _ (x : Float) (f : T (fits binary64 x)) (a : lt plus_zero x ≡ true) where
  view : Above x
  view = by_case x f (sym (above_zero x) ∙ a)

  pub above_pattern : 0 < to_bits binary64 x
  above_pattern = elim view [
    | finite_value p l h ↦ l
    | infinity g e ↦ omega arith
  ]

  pub finite_pattern : to_bits binary64 x < 0x7ff0_0000_0000_0000 → positive x ≡ true
  finite_pattern h = elim view [
    | finite_value p l k ↦ p
    | infinity g e ↦ absurd (omega arith)
  ]
