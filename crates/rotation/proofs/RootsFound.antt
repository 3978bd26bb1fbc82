-- The roots of a pair and whether they are exact, by the tests that tell the cases of a pair apart. Assumes nothing.
use mathlib.Core.Path.{◌≡◌, refl, sym, ap, ◌∙◌}
use mathlib.Core.Bool.{Bool, true, false, cond, ◌&&◌, true≢false}
use Prim.Native.Nat.{ℕ, zero, suc, ◌*◌}
use native.Mathlib.Nat.{mul-pos, zero-mul, zero-lt-suc}
use lib.Dec.{eqb-suc-zero}
use lib.IntN.{ℤ}
use lib.Ieee.{Float, nan, inf, fin, binary64, up, down, unlike, round, add, mul, div, eq, is_nan, of_bits}
use lib.Ieee.Fits.{down_pos}
use lib.Ieee.Scale.{round_same}
use Rattle.std.specs.Prelude.{Result, Ok, Err}
use Rattle.std.specs.Result.{result_unwrap_or}
use Rattle.refusal.specs.declared.Refusal.{Refusal}
use Rattle.refusal.specs.Answers.{Answered, given, refused, value_or}
use Rattle.float64.specs.Values.{plus_zero, one, is_zero}
use Rattle.float64.proofs.Zeros.{equal_zero}
use Rattle.root.specs.Sqrt.{sqrt_of}
use Rattle.root.specs.Exact.{exact_root, flagged, sqrt_answer, root_answered}
use Rattle.root.proofs.RootCases.{refused_flag}
use Rattle.rotation.specs.declared.Parameters.{Parameters}
use Rattle.rotation.specs.declared.Parameters.TheVariants.{Still, Turn}
use Rattle.root.specs.declared.Root.{Root}
use Rattle.rotation.specs.Rotation.{root_of, tangent_of, cosine_of, angle_of, of_tangent, quotient, tangent_of_pair, of_pair}
use Rattle.rotation.specs.Exact.{under_root, exact_pair, found_of, exact_tangent, rooted_of, tangent_rooted, cosine_rooted, tangent_found}
use Rattle.rotation.proofs.ParameterCases.{still_at, turn_at, still_pair, other_pair}

-- ---- what is found by an answer of the square root
abbrev pub rooted_by : Answered (Float × Bool) → Root
rooted_by (given y) = record { value = y.0; exact = y.1 }
rooted_by (refused k values) = record { value = nan; exact = false }

unwrapped : (r : Result Root Refusal) → result_unwrap_or r (record { value = nan; exact = false }) ≡ rooted_by (root_answered r)
unwrapped (Ok r) = refl
unwrapped (Err e) = refl

pub rooted_answer : (x : Float) (r : Result Root Refusal) → root_answered r ≡ sqrt_answer x
    → result_unwrap_or r (record { value = nan; exact = false }) ≡ rooted_of x
unfolding root_of
rooted_answer x r h = unwrapped r ∙ ap rooted_by h ∙ go (sqrt_of x) refl
  where
    go : (a : Answered Float) → sqrt_of x ≡ a → rooted_by (flagged (exact_root x) a) ≡ record { value = value_or a nan; exact = exact_root x }
    go (given y) e = refl
    go (refused k values) e = rw (refused_flag x k values e)

-- ---- the root in the cosine of a zero is that of 1
zero_square : (s : Bool) (e : ℤ) → under_root (fin s 0 e) ≡ one
unfolding mul add of_bits
zero_square s e =
    let scale = down e * down e in
    let zeros = ap (λ (n : ℕ). n * (0 * up e)) (zero-mul (up e)) ∙ zero-mul (0 * up e) in
    ap (add binary64 one)
    (ap (λ (n : ℕ). round binary64 (unlike s s) n scale) zeros
    ∙ round_same binary64 (unlike s s) 0 scale 0 1 (mul-pos (down_pos e) (down_pos e)) (zero-lt-suc 0) (zero-mul 1 ∙ sym (zero-mul scale)))
    ∙ sums s
  where
    sums : (s : Bool) → add binary64 one (round binary64 (unlike s s) 0 1) ≡ one
    sums true = refl
    sums false = refl

one_exact : exact_root one ≡ true
unfolding exact_root of_bits
one_exact = refl

zero_under : (t : Float) → is_zero t ≡ true → under_root t ≡ one
zero_under nan h = absurd (true≢false (sym h))
zero_under (inf s) h = absurd (true≢false (sym h))
zero_under (fin s zero e) h = zero_square s e
zero_under (fin s (suc m) e) h = absurd (true≢false (sym h ∙ eqb-suc-zero m))

pub zero_exact : (t : Float) → is_zero t ≡ true → exact_root (under_root t) ≡ true
zero_exact t h = ap exact_root (zero_under t h) ∙ one_exact

by_one : div binary64 one (root_of one) ≡ one
unfolding div root_of sqrt_of of_bits
by_one = refl

pub zero_cosine : (t : Float) → eq t plus_zero ≡ true → record { value = one; exact = true } ≡ cosine_rooted t
unfolding cosine_of
zero_cosine t h =
    let z = zero_under t (sym (equal_zero t) ∙ h) in
    rw (z, by_one, one_exact)

plus_zero_lem : is_zero plus_zero ≡ true
unfolding of_bits
plus_zero_lem = refl

-- ---- a value that isn't a number has no root
pub nan_rounded : (t : Float) → is_nan t ≡ true → exact_root (under_root t) ≡ false
unfolding exact_root add mul is_nan of_bits
nan_rounded nan h = refl
nan_rounded (inf s) h = absurd (true≢false (sym h))
nan_rounded (fin s m e) h = absurd (true≢false (sym h))

-- ---- a pair
module _ (a d b : Float) where
  pub zero_found : eq b plus_zero ≡ true → record { value = plus_zero; exact = true } ≡ tangent_found a d b
  unfolding tangent_of_pair exact_tangent
  zero_found h = rw (sym (equal_zero b) ∙ h)

  pub other_found : (t : Root) → eq b plus_zero ≡ false → t ≡ tangent_rooted (quotient a d b) → t ≡ tangent_found a d b
  unfolding tangent_of_pair exact_tangent
  other_found t h e = e ∙ (rw (sym (equal_zero b) ∙ h))

  pub zero_pair_exact : eq b plus_zero ≡ true → true ≡ exact_pair a d b
  unfolding exact_pair
  zero_pair_exact h = rw (sym (equal_zero b) ∙ h)

  -- where b is not zero both roots count, and that of a t that isn't a number is not exact
  pub other_pair_exact : eq b plus_zero ≡ false → exact_root (under_root (quotient a d b)) && exact_root (under_root (tangent_of (quotient a d b)))
      ≡ exact_pair a d b
  unfolding exact_pair
  other_pair_exact h = rw (sym (equal_zero b) ∙ h) (go (is_nan (tangent_of (quotient a d b))) refl)
    where
      none : (x : Bool) → x && false ≡ false
      none true = refl
      none false = refl

      go : (z : Bool) → is_nan (tangent_of (quotient a d b)) ≡ z
          → exact_root (under_root (quotient a d b)) && exact_root (under_root (tangent_of (quotient a d b)))
          ≡ cond z false (exact_root (under_root (quotient a d b)) && exact_root (under_root (tangent_of (quotient a d b))))
      go true e = rw (nan_rounded _ e) (none (exact_root (under_root (quotient a d b))))
      go false e = refl

  -- by the roots of the tangent and of the cosine
  pub pair_roots : exact_tangent a d b && exact_root (under_root (tangent_of_pair a d b)) ≡ exact_pair a d b
  unfolding exact_tangent tangent_of_pair
  pair_roots = go (is_zero b) refl
    where
      go : (z : Bool) → is_zero b ≡ z
          → cond z true (exact_root (under_root (quotient a d b))) && exact_root (under_root (cond z plus_zero (tangent_of (quotient a d b))))
          ≡ exact_pair a d b
      go true e = zero_exact plus_zero plus_zero_lem ∙ zero_pair_exact (equal_zero b ∙ e)
      go false e = other_pair_exact (equal_zero b ∙ e)

  -- ---- with the parameters
  found_both : {P : Parameters} {e : Bool} → P ≡ of_pair a d b → e ≡ exact_pair a d b → record { parameters = P; exact = e } ≡ found_of a d b
  found_both f g = rw (f, g)

  pub zero_pair_found : eq b plus_zero ≡ true → record { parameters = Still; exact = true } ≡ found_of a d b
  zero_pair_found h = found_both (still_pair a d b h) (zero_pair_exact h)

  module _ (h : eq b plus_zero ≡ false) (t : Root) (e : t ≡ tangent_rooted (quotient a d b)) where
    flags : (x : Bool) → x ≡ exact_root (under_root t.value) → t.exact && x ≡ exact_pair a d b
    flags x f = rw (f, e) (other_pair_exact h)

    value : of_tangent t.value ≡ of_pair a d b
    value = other_pair a d b t.value h (rw e)

    pub still_found : eq t.value plus_zero ≡ true → record { parameters = Still; exact = t.exact } ≡ found_of a d b
    unfolding of_tangent
    still_found z =
        found_both (still_at (angle_of t.value) z ∙ value)
        (whole t.exact ∙ flags true (sym (zero_exact t.value (sym (equal_zero t.value) ∙ z))))
      where
        whole : (x : Bool) → x ≡ x && true
        whole true = refl
        whole false = refl

    pub turn_found : (c : Root) → eq t.value plus_zero ≡ false → c ≡ cosine_rooted t.value
        → record { parameters = Turn t.value c.value (mul binary64 t.value c.value); exact = t.exact && c.exact } ≡ found_of a d b
    unfolding of_tangent
    turn_found c z f = found_both (rw f (turn_at (angle_of t.value) z ∙ value)) (flags c.exact (rw f))

    -- the same, of a flag that is found by a test of the first
    pub turn_flagged : (c : Root) → eq t.value plus_zero ≡ false → c ≡ cosine_rooted t.value → (x : Bool) → x ≡ t.exact && c.exact
        → record { parameters = Turn t.value c.value (mul binary64 t.value c.value); exact = x } ≡ found_of a d b
    turn_flagged c z f x g = rw g (turn_found c z f)
