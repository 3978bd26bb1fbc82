-- What is not finite stays so: where a rotation leaves finite values, it was given finite ones. Assumes nothing.
use lib.IntN.{pos}
use mathlib.Core.Path.{◌≡◌, refl, sym, ap, ◌∙◌}
use mathlib.Core.Bool.{Bool, true, false, true≢false}
use lib.Ieee.{Float, nan, inf, fin, binary64, neg, add, mul, div, lt, of_bits}
use Rattle.float64.specs.Values.{finite, is_zero}
use Rattle.float64.proofs.Operands.{BothFinite, sum_operands, difference_operands, product_operands}
use Rattle.float64.proofs.Vanishing.{Zero, product_zero, sum_of_zeros, difference_of_zeros}
use Rattle.root.specs.Sqrt.{sqrt_of}
use Rattle.rotation.specs.declared.Parameters.{Parameters}
use Rattle.rotation.specs.declared.Parameters.TheVariants.{Still, Turn}
use Rattle.rotation.specs.Rotation.{root_of, signum, tangent_of, quotient, tangent_of_pair, of_angle, of_tangent, of_pair, diagonal_of, turn_of}
use Rattle.rotation.proofs.ParameterCases.{tangent_nan}

-- ---- a turn of two values
pub turn_kept : (P : Parameters) (x y : Float) → finite (turn_of P x y).left ≡ true → finite (turn_of P x y).right ≡ true → BothFinite x y
turn_kept Still x y e f = (e, f)
turn_kept (Turn t c s) x y e f =
    let o = difference_operands (mul binary64 c x) (mul binary64 s y) e in
    ((product_operands c x o.0).1, (product_operands s y o.1).1)

-- a turn that leaves a value finite has a finite cosine and sine, and makes zeros of zeros
pub zeros_turned : (P : Parameters) (x y u v : Float) → finite (turn_of P x y).left ≡ true → Zero u → Zero v
    → Zero (turn_of P u v).left × Zero (turn_of P u v).right
zeros_turned Still x y u v e f g = (f, g)
zeros_turned (Turn t c s) x y u v e f g =
    let o = difference_operands (mul binary64 c x) (mul binary64 s y) e in
    let fc = (product_operands c x o.0).0 in
    let fs = (product_operands s y o.1).0 in
    (difference_of_zeros _ _ (product_zero c u fc f) (product_zero s v fs g), sum_of_zeros _ _ (product_zero s u fs f) (product_zero c v fc g))

-- ---- a pair is still only if b is finite
abbrev pub is_still : Parameters → Bool
is_still Still = true
is_still (Turn t c s) = false

pub turns : (t : Float) → is_zero t ≡ false → is_still (of_tangent t) ≡ false
unfolding of_tangent of_angle
turns t e = rw e

-- 1 / 1, for a zero of either sign
tangent_zero : (s : Bool) → is_zero (tangent_of (fin s 0 (pos 0))) ≡ false
unfolding tangent_of signum root_of sqrt_of lt div add mul neg of_bits
tangent_zero true = refl
tangent_zero false = refl

by_nan : (x : Float) → is_zero (tangent_of (div binary64 x nan)) ≡ false
unfolding div
by_nan nan = rw tangent_nan
by_nan (inf s) = rw tangent_nan
by_nan (fin s m e) = rw tangent_nan

by_infinity : (x : Float) (t : Bool) → is_zero (tangent_of (div binary64 x (inf t))) ≡ false
unfolding div
by_infinity nan t = rw tangent_nan
by_infinity (inf s) t = rw tangent_nan
by_infinity (fin s m e) t = tangent_zero _

pub still_kept : (a d b : Float) → of_pair a d b ≡ Still → finite b ≡ true
unfolding of_pair tangent_of_pair quotient finite
still_kept a d nan e = absurd (true≢false (sym (ap is_still e) ∙ turns _ (by_nan _)))
still_kept a d (inf t) e = absurd (true≢false (sym (ap is_still e) ∙ turns _ (by_infinity _ t)))
still_kept a d (fin s m k) e = refl

-- ---- the pair itself
pub pair_kept : (a d b : Float) → finite (diagonal_of (of_pair a d b) a d b).left ≡ true → finite (diagonal_of (of_pair a d b) a d b).right ≡ true
    → (finite a ≡ true) × (finite d ≡ true) × (finite b ≡ true)
pair_kept a d b e f = go (of_pair a d b) refl e f
  where
    go : (P : Parameters) → of_pair a d b ≡ P → finite (diagonal_of P a d b).left ≡ true → finite (diagonal_of P a d b).right ≡ true
        → (finite a ≡ true) × (finite d ≡ true) × (finite b ≡ true)
    go Still z e f = (e, f, still_kept a d b z)
    go (Turn t c s) z e f =
        let o = difference_operands a (mul binary64 t b) e in
        (o.0, (sum_operands d (mul binary64 t b) f).0, (product_operands t b o.1).1)
