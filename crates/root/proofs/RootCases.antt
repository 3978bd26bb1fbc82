-- `sqrt_of` and `exact_root` by the tests that tell their cases apart. Assumes nothing.
use Rattle.std.proofs.Common.{◌≡◌, ℕ, zero, suc, Bool, true, false, List, [], sym, refl, ap, ◌∙◌, true≢false, zero-lt-suc, lt-ltb}
use lib.Dec.{eqb-suc-zero}
use lib.Ieee.{Float, nan, inf, fin, binary64, lt, eq, of_bits}
use lib.Ieee.Positive.{positive}
use Rattle.refusal.specs.Answers.{Answered, given, refused}
use Rattle.float64.specs.Values.{plus_zero, is_zero}
use Rattle.float64.proofs.Zeros.{above_zero}
use Rattle.float64.specs.Units.{units_of}
use Rattle.root.specs.Sqrt.{root_units, sqrt_of}
use Rattle.root.specs.Exact.{exact_units, exact_root, flagged, sqrt_answer}

pub sqrt_positive : (x : Float) → positive x ≡ true → sqrt_of x ≡ given (root_units (units_of x))
unfolding sqrt_of
sqrt_positive nan p = absurd (true≢false (sym p))
sqrt_positive (inf s) p = absurd (true≢false (sym p))
sqrt_positive (fin true m e) p = absurd (true≢false (sym p))
sqrt_positive (fin false zero e) p = absurd (true≢false (sym p))
sqrt_positive (fin false (suc m) e) p = refl

-- ---- whether the root is exact
pub exact_positive : (x : Float) → positive x ≡ true → exact_root x ≡ exact_units (units_of x)
unfolding exact_root
exact_positive nan p = absurd (true≢false (sym p))
exact_positive (inf s) p = absurd (true≢false (sym p))
exact_positive (fin true m e) p = absurd (true≢false (sym p))
exact_positive (fin false zero e) p = absurd (true≢false (sym p))
exact_positive (fin false (suc m) e) p = refl

abbrev is_given : Answered Float → Bool
is_given (given y) = true
is_given (refused n l) = false

-- ---- the answer
answered : (x y : Float) (t : Bool) → given y ≡ sqrt_of x → exact_root x ≡ t → given (y, t) ≡ sqrt_answer x
answered x y t e f = ap (λ (a : Answered Float). flagged t a) e ∙ ap (λ (u : Bool). flagged u (sqrt_of x)) (sym f)

pub answer_positive : (x : Float) → positive x ≡ true → given (root_units (units_of x), exact_units (units_of x)) ≡ sqrt_answer x
answer_positive x p = answered x (root_units (units_of x)) (exact_units (units_of x)) (sym (sqrt_positive x p)) (exact_positive x p)

pub answer_zero : (x : Float) → is_zero x ≡ true → given (x, true) ≡ sqrt_answer x
unfolding sqrt_of exact_root
answer_zero nan z = absurd (true≢false (sym z))
answer_zero (inf s) z = absurd (true≢false (sym z))
answer_zero (fin s zero e) z = refl
answer_zero (fin s (suc m) e) z = absurd (true≢false (sym z ∙ eqb-suc-zero m))

pub answer_infinite : (x : Float) → eq x (of_bits binary64 0x7ff0_0000_0000_0000) ≡ true → given (x, true) ≡ sqrt_answer x
unfolding sqrt_of exact_root eq of_bits
answer_infinite nan h = absurd (true≢false (sym h))
answer_infinite (inf true) h = absurd (true≢false (sym h))
answer_infinite (inf false) h = refl
answer_infinite (fin s m e) h = absurd (true≢false (sym h))

-- not above zero and finite, no zero, and not +infinity
pub answer_refused : (x : Float) → (lt plus_zero x ≡ true → lt x (of_bits binary64 0x7ff0_0000_0000_0000) ≡ false)
    → is_zero x ≡ false → eq x (of_bits binary64 0x7ff0_0000_0000_0000) ≡ false → refused 9 [] ≡ sqrt_answer x
unfolding sqrt_of exact_root eq lt of_bits
answer_refused nan a z h = refl
answer_refused (inf true) a z h = refl
answer_refused (inf false) a z h = absurd (true≢false h)
answer_refused (fin s zero e) a z h = absurd (true≢false z)
answer_refused (fin true (suc m) e) a z h = refl
answer_refused (fin false (suc m) e) a z h = absurd (true≢false (a (above_zero (fin false (suc m) e) ∙ lt-ltb 0 (suc m) (zero-lt-suc m))))

-- where the answer is a refusal, the root is not exact
pub refused_flag : (x : Float) (n : ℕ) (l : List ℕ) → sqrt_of x ≡ refused n l → exact_root x ≡ false
unfolding sqrt_of exact_root
refused_flag nan n l e = refl
refused_flag (inf true) n l e = refl
refused_flag (inf false) n l e = absurd (true≢false (ap is_given e))
refused_flag (fin s zero k) n l e = absurd (true≢false (ap is_given e))
refused_flag (fin true (suc m) k) n l e = refl
refused_flag (fin false (suc m) k) n l e = absurd (true≢false (ap is_given e))
