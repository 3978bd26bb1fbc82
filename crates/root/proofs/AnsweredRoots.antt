-- What has no root and what has one, by the comparisons with zero. Assumes nothing.
use Rattle.std.proofs.Common.{◌≡◌, zero, suc, true, false, T, sym, refl, ◌∙◌, true≢false, zero-lt-suc, lt-ltb}
use lib.Ieee.{Float, nan, inf, fin, binary64, fits, neg, lt, eq}
use lib.Ieee.Positive.{above}
use Rattle.refusal.specs.declared.Refusal.TheVariants.{NoRoot}
use Rattle.refusal.specs.Answers.{given, refused_by}
use Rattle.float64.specs.Values.{plus_zero, finite}
use Rattle.float64.proofs.Zeros.{below_zero, unsigned_not_below}
use Rattle.float64.proofs.PositiveValues.{finite_positive}
use Rattle.root.specs.Sqrt.{sqrt_of}
use Rattle.root.proofs.CorrectRounding.{RootOf, root_of_lem}

-- ---- refused
pub root_of_nan : sqrt_of nan ≡ refused_by NoRoot
unfolding sqrt_of
root_of_nan = refl

refused_below : (x : Float) → above (neg x) ≡ true → sqrt_of x ≡ refused_by NoRoot
unfolding sqrt_of neg
refused_below nan h = refl
refused_below (inf true) h = refl
refused_below (inf false) h = absurd (true≢false (sym h))
refused_below (fin true zero e) h = absurd (true≢false (sym h))
refused_below (fin true (suc m) e) h = refl
refused_below (fin false m e) h = absurd (true≢false (sym h))

pub root_below : (x : Float) → lt x plus_zero ≡ true → sqrt_of x ≡ refused_by NoRoot
root_below x h = refused_below x (sym (below_zero x) ∙ h)

-- ---- every other value has a root
given_other : (x : Float) → eq x x ≡ true → above (neg x) ≡ false → (r : Float) × (sqrt_of x ≡ given r)
unfolding sqrt_of neg eq
given_other nan h k = absurd (true≢false (sym h))
given_other (inf true) h k = absurd (true≢false k)
given_other (inf false) h k = (inf false, refl)
given_other (fin s zero e) h k = (fin s zero e, refl)
given_other (fin true (suc m) e) h k = absurd (true≢false (sym (lt-ltb 0 (suc m) (zero-lt-suc m)) ∙ k))
given_other (fin false (suc m) e) h k = (_, refl)

pub root_other : (x : Float) → eq x x ≡ true → lt x plus_zero ≡ false → (r : Float) × (sqrt_of x ≡ given r)
root_other x h k = given_other x h (sym (below_zero x) ∙ k)

-- ---- of a finite value above zero, one that is not below zero
pub root_above : (x : Float) → T (finite x) → T (fits binary64 x) → lt plus_zero x ≡ true → (r : Float) × RootOf x r
root_above x f t h = root_of_lem x (finite_positive x h f) t

pub root_not_below : (x r : Float) → RootOf x r → lt r plus_zero ≡ false
root_not_below x r h = unsigned_not_below r h.root.unsigned
