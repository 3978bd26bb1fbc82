-- The short form and the long form: the first byte, and the width of the codes. Assumes nothing.
use Prim.Native.Nat.{ℕ, ◌+◌, ◌-◌, ◌^◌, ◌<◌, ◌≤◌}
use mathlib.Core.Path.{◌≡◌, refl, sym, ◌∙◌}
use mathlib.Core.Bool.{Bool, true, false, cond}
use mathlib.Core.List.{List}
use native.Mathlib.Omega.{arith}
use borrow.Author.Tests.{eq-eqb, ne_eqb, lt-ltb, le-ltb, eqb-true, eqb-false, ltb-false}
use lib.Dec.{eqb, ltb}
use lib.ListN.{length, get_or}
use Rattle.lists.specs.Bounded.{any}
use Rattle.lists.proofs.Bounded.{any_to, any_from}
use Rattle.sheet.proofs.BadCodes.{one_long}
use Rattle.sheet.specs.Codes.{long_codes, width_for}
use Rattle.sheet.specs.Format.{long_form, first_byte, width_in, order_in}

-- one or two bytes
abbrev pub Width : ℕ → Type 0
Width w = (1 ≤ w) × (w ≤ 2)

either : (b : Bool) {v w : ℕ} → Width v → Width w → Width (cond b v w)
either true p q = p
either false p q = q

one : Width 1
one = (omega arith, omega arith)

two : Width 2
two = (omega arith, omega arith)

-- ---- of a sheet
module _ (b : List ℕ) where
  pub width_fits : Width (width_in b)
  unfolding width_in
  width_fits = either (ltb (get_or b 0 0) long_form) one two

  pub width_short : get_or b 0 0 < long_form → 1 ≡ width_in b
  unfolding width_in
  width_short h = rw (lt-ltb (get_or b 0 0) long_form h)

  pub width_long : long_form ≤ get_or b 0 0 → 2 ≡ width_in b
  unfolding width_in
  width_long h = rw (le-ltb (get_or b 0 0) long_form h)

  pub order_short : get_or b 0 0 < long_form → get_or b 0 0 ≡ order_in b
  unfolding order_in
  order_short h = rw (lt-ltb (get_or b 0 0) long_form h)

  pub order_long : long_form ≤ get_or b 0 0 → get_or b 0 0 - long_form ≡ order_in b
  unfolding order_in
  order_long h = rw (le-ltb (get_or b 0 0) long_form h)

  pub order_within : order_in b ≤ get_or b 0 0
  unfolding order_in
  order_within = go (ltb (get_or b 0 0) long_form)
    where
      go : (x : Bool) → cond x (get_or b 0 0) (get_or b 0 0 - long_form) ≤ get_or b 0 0
      go true = omega arith
      go false = omega arith

  -- both give the first byte again
  pub first_kept : first_byte (width_in b) (order_in b) ≡ get_or b 0 0
  unfolding first_byte width_in order_in
  first_kept = go (ltb (get_or b 0 0) long_form) refl
    where
      go : (x : Bool) → ltb (get_or b 0 0) long_form ≡ x
          → cond (eqb (cond x 1 2) 2) (cond x (get_or b 0 0) (get_or b 0 0 - long_form) + long_form) (cond x (get_or b 0 0) (get_or b 0 0 - long_form))
          ≡ get_or b 0 0
      go true z = refl
      go false z = let h : long_form ≤ get_or b 0 0 = ltb-false _ _ z in omega arith

-- ---- of codes
module _ (codes : List ℕ) where
  pub width_two : true ≡ long_codes codes → 2 ≡ width_for codes
  unfolding width_for
  width_two e = rw (← e)

  pub width_one : false ≡ long_codes codes → 1 ≡ width_for codes
  unfolding width_for
  width_one e = rw (← e)

  pub width_for_fits : Width (width_for codes)
  unfolding width_for
  width_for_fits = either (long_codes codes) two one

  -- the codes fit it
  pub codes_fit : ((k : ℕ) → get_or codes k 0 < 65536) → (k : ℕ) → k < length codes → get_or codes k 0 < 256 ^ width_for codes
  unfolding width_for
  codes_fit below k h = go (long_codes codes) refl
    where
      go : (x : Bool) → long_codes codes ≡ x → get_or codes k 0 < 256 ^ cond x 2 1
      go true z = below k
      go false z =
          let none : any (length codes) (λ k. ltb 255 (get_or codes k 0)) ≡ false = unfold long_codes in z in
          let short : get_or codes k 0 ≤ 255 = ltb-false _ _ (any_to (length codes) _ none k h) in
          omega arith

  pub fits_short : ((k : ℕ) → k < length codes → get_or codes k 0 ≤ 255) → width_for codes ≡ 1
  fits_short short = sym (width_one (sym none))
    where
      none : long_codes codes ≡ false
      none = unfold long_codes in (any_from (length codes) _ (λ k h. le-ltb 255 (get_or codes k 0) (short k h)))

  pub fits_long : (k : ℕ) → k < length codes → 255 < get_or codes k 0 → width_for codes ≡ 2
  fits_long k h long = sym (width_two (one_long codes k h long))

-- ---- the first byte
module _ (w n : ℕ) where
  pub first_long : w ≡ 2 → n + long_form ≡ first_byte w n
  unfolding first_byte
  first_long e = rw (eq-eqb w 2 e)

  pub first_short : ¬ (w ≡ 2) → n ≡ first_byte w n
  unfolding first_byte
  first_short e = rw (ne_eqb w 2 e)

  pub first_of_one : w ≡ 1 → first_byte w n ≡ n
  first_of_one e = sym (first_short (λ z. absurd (omega arith)))

-- from the first byte back to both
module _ (w n : ℕ) (fits : Width w) (below : n < long_form) (b : List ℕ) (e : get_or b 0 0 ≡ first_byte w n) where
  pub both_again : (width_in b ≡ w) × (order_in b ≡ n)
  both_again = go (eqb w 2) refl
    where
      go : (x : Bool) → eqb w 2 ≡ x → (width_in b ≡ w) × (order_in b ≡ n)
      go true z =
          let two : w ≡ 2 = eqb-true _ _ z in
          let first : n + long_form ≡ get_or b 0 0 = first_long w n two ∙ sym e in
          (sym (width_long b (omega arith)) ∙ sym two, sym (order_long b (omega arith)) ∙ omega arith)
      go false z =
          let one : ¬ (w ≡ 2) = eqb-false _ _ z in
          let first : n ≡ get_or b 0 0 = first_short w n one ∙ sym e in
          let w1 : 1 ≡ w = omega (arith, fits.0, fits.1) in
          (sym (width_short b (omega arith)) ∙ w1, sym (order_short b (omega arith)) ∙ sym first)
