-- A sum, a difference or a product that is finite has finite operands. Assumes nothing.
use mathlib.Core.Path.{◌≡◌, refl, sym, ◌∙◌}
use mathlib.Core.Bool.{Bool, true, false, not, cond, beq, true≢false}
use lib.Dec.{eqb}
use lib.Ieee.{Float, nan, inf, fin, binary64, unlike, neg, add, sub, mul}
use Rattle.float64.specs.Values.{finite}

abbrev pub BothFinite : Float → Float → Type 0
BothFinite x y = (finite x ≡ true) × (finite y ≡ true)

-- a choice between two values that aren't finite
neither : (b : Bool) (x y : Float) → finite x ≡ false → finite y ≡ false → finite (cond b x y) ≡ true → {A : Type 0} → A
neither true x y f g e = absurd (true≢false (sym e ∙ f))
neither false x y f g e = absurd (true≢false (sym e ∙ g))

pub product_operands : (x y : Float) → finite (mul binary64 x y) ≡ true → BothFinite x y
unfolding finite mul
product_operands nan y e = absurd (true≢false (sym e))
product_operands (inf s) nan e = absurd (true≢false (sym e))
product_operands (inf s) (inf t) e = absurd (true≢false (sym e))
product_operands (inf s) (fin t n d) e = neither (eqb n 0) nan (inf (unlike s t)) refl refl e
product_operands (fin s m k) nan e = absurd (true≢false (sym e))
product_operands (fin s m k) (inf t) e = neither (eqb m 0) nan (inf (unlike s t)) refl refl e
product_operands (fin s m k) (fin t n d) e = (refl, refl)

pub sum_operands : (x y : Float) → finite (add binary64 x y) ≡ true → BothFinite x y
unfolding finite add
sum_operands nan y e = absurd (true≢false (sym e))
sum_operands (inf s) nan e = absurd (true≢false (sym e))
sum_operands (inf s) (inf t) e = neither (beq s t) (inf s) nan refl refl e
sum_operands (inf s) (fin t n d) e = absurd (true≢false (sym e))
sum_operands (fin s m k) nan e = absurd (true≢false (sym e))
sum_operands (fin s m k) (inf t) e = absurd (true≢false (sym e))
sum_operands (fin s m k) (fin t n d) e = (refl, refl)

pub difference_operands : (x y : Float) → finite (sub binary64 x y) ≡ true → BothFinite x y
unfolding finite sub add neg
difference_operands nan y e = absurd (true≢false (sym e))
difference_operands (inf s) nan e = absurd (true≢false (sym e))
difference_operands (inf s) (inf t) e = neither (beq s (not t)) (inf s) nan refl refl e
difference_operands (inf s) (fin t n d) e = absurd (true≢false (sym e))
difference_operands (fin s m k) nan e = absurd (true≢false (sym e))
difference_operands (fin s m k) (inf t) e = absurd (true≢false (sym e))
difference_operands (fin s m k) (fin t n d) e = (refl, refl)
