-- What a sheet holds that is accepted: finite entries in both triangles, patterns that are kept, and codes of its form. Assumes nothing.
use Prim.Native.Nat.{ℕ, ◌+◌, ◌*◌, ◌^◌, ◌<◌, ◌≤◌}
use mathlib.Core.Path.{◌≡◌, refl, sym, ◌∙◌}
use mathlib.Core.Bool.{Bool, true, false, not, cond, true≢false}
use mathlib.Core.List.{List}
use native.Mathlib.Omega.{arith}
use borrow.Author.Tests.{eqb-true, eqb-false, ltb-true, ltb-false}
use lib.Dec.{T, eqb, ltb}
use lib.ListN.{length, get_or}
use lib.Ieee.{Float, nan, inf, fin, binary64, of_bits, to_bits, is_nan}
use lib.Ieee.Bits.{to_bits-of_bits}
use Rattle.float64.specs.Values.{finite}
use Rattle.refusal.specs.Answers.{given, refused_by, first}
use Rattle.refusal.specs.declared.Refusal.TheVariants.{NotFinite}
use Rattle.refusal.proofs.FirstRefusal.{refused_given, each_given, of_test}
use Rattle.matrix.proofs.SameEntries.{Finite, Mirrored}
use Rattle.sheet.specs.Format.{width_in, order_in, code_in, codes_in, pattern_in, entry_in}
use Rattle.sheet.specs.Codes.{long_codes, width_for}
use Rattle.sheet.proofs.Triangle.{code_ends}
use Rattle.sheet.proofs.Words.{word_below}
use Rattle.sheet.proofs.Forms.{width_fits, width_two, fits_short}
use Rattle.sheet_reader.specs.Reader.{long_in_vain, not_finite_in, stored_row, sheet_answer}
use Rattle.sheet_reader.proofs.SheetContents.{codes_count, code_at}
use Rattle.sheet_reader.proofs.Tables.{Readable, readable, lent_right}

-- by its bytes alone
pub readable_alone : (b : List ℕ) → sheet_answer b ≡ given tt → Readable b (order_in b) (order_in b * order_in b)
readable_alone b e = readable b (order_in b) (order_in b * order_in b) (lent_right b ∙ e)

-- code k has its room, and is one of the codes that are read
module _ (b : List ℕ) (e : sheet_answer b ≡ given tt) {w : ℕ} (form : w ≡ width_in b) (k : ℕ) (h : k < order_in b) where
  pub code_room : (1 ≤ w) × (w ≤ 2) × (2 + w * k + w ≤ length b)
  code_room =
      let fit = width_fits b in
      rw form (fit.0, fit.1, omega (arith, code_ends (width_in b) (order_in b) k h, (readable_alone b e).sheet_long))

  pub code_found : {v : ℕ} → v ≡ code_in w b k → v ≡ get_or (codes_in b) k 0
  code_found z = z ∙ rw form (sym (code_at b k h))

-- the mirror bits stand above the diagonal
pub entries_mirrored : (b : List ℕ) (n : ℕ) → Mirrored n (entry_in b)
unfolding entry_in
entries_mirrored b n i j hi hj = go (ltb i j) (ltb j i) refl refl
  where
    go : (x y : Bool) → ltb i j ≡ x → ltb j i ≡ y
        → cond x (of_bits binary64 (pattern_in b j i)) (of_bits binary64 (pattern_in b i j))
        ≡ cond y (of_bits binary64 (pattern_in b i j)) (of_bits binary64 (pattern_in b j i))
    go true true e f = let u : i < j = ltb-true _ _ e in let v : j < i = ltb-true _ _ f in absurd (omega arith)
    go true false e f = refl
    go false true e f = refl
    go false false e f = let u : j ≤ i = ltb-false _ _ e in let v : i ≤ j = ltb-false _ _ f in let z : i ≡ j = omega arith in rw z

no_nan : (x : Float) → finite x ≡ true → T (not (is_nan x))
unfolding finite is_nan
no_nan nan e = absurd (true≢false (sym e))
no_nan (inf s) e = tt
no_nan (fin s m k) e = tt

module _ (b : List ℕ) (lc lm : ℕ) (r : Readable b lc lm) where
  abbrev n : ℕ
  n = order_in b

  stored_finite_lem : (i j : ℕ) → 1 ≤ j → j ≤ i → i ≤ n → finite (of_bits binary64 (pattern_in b i j)) ≡ true
  stored_finite_lem i j h k o =
      test (each_given (not_finite_in b i) i (each_given (λ r. first r (not_finite_in b r)) n
      (unfold stored_row in r.entries_good) i (omega arith, o)) j (h, k))
    where
      test : not_finite_in b i j ≡ given tt → finite (of_bits binary64 (pattern_in b i j)) ≡ true
      test e = unfold not_finite_in in (of_test (finite (of_bits binary64 (pattern_in b i j))) (refused_by (NotFinite i j)) (λ z. refused_given z) e)

  pub entries_finite : Finite n (entry_in b)
  unfolding entry_in
  entries_finite i j hi hj = go (ltb i j) refl
    where
      go : (x : Bool) → ltb i j ≡ x → finite (cond x (of_bits binary64 (pattern_in b j i)) (of_bits binary64 (pattern_in b i j))) ≡ true
      go true e = let u : i < j = ltb-true _ _ e in stored_finite_lem j i hi.0 (omega arith) hj.1
      go false e = let u : j ≤ i = ltb-false _ _ e in stored_finite_lem i j hj.0 (omega arith) hi.1

  -- its patterns are those of the values read
  pub pattern_fits : (i j : ℕ) → 1 ≤ j → j ≤ i → i ≤ n → pattern_in b i j < 2 ^ 64 → to_bits binary64 (of_bits binary64 (pattern_in b i j)) ≡ pattern_in b i j
  pattern_fits i j h k o below = to_bits-of_bits binary64 (pattern_in b i j) below (no_nan (of_bits binary64 (pattern_in b i j)) (stored_finite_lem i j h k o))

  module _ (small : (i : ℕ) → get_or b i 0 < 256) where
    pub pattern_kept : (i j : ℕ) → 1 ≤ j → j ≤ i → i ≤ n → to_bits binary64 (of_bits binary64 (pattern_in b i j)) ≡ pattern_in b i j
    pattern_kept i j h k o = pattern_fits i j h k o (unfold pattern_in in (word_below b _ small 8))

    -- its codes have its form
    pub width_kept : width_for (codes_in b) ≡ width_in b
    width_kept = go (eqb (width_in b) 2) (long_codes (codes_in b)) refl refl r.form_good
      where
        go : (x y : Bool) → eqb (width_in b) 2 ≡ x → long_codes (codes_in b) ≡ y → long_in_vain b ≡ false → width_for (codes_in b) ≡ width_in b
        go true true e f g = sym (width_two (codes_in b) (sym f)) ∙ sym (eqb-true _ _ e)
        go true false e f g = let vain : long_in_vain b ≡ true = unfold long_in_vain in (rw (e, f)) in absurd (true≢false (sym vain ∙ g))
        go false y e f g = fits_short (codes_in b) short ∙ one
          where
            one : 1 ≡ width_in b
            one = let other : ¬ (width_in b ≡ 2) = eqb-false _ _ e in let fit = width_fits b in omega (arith, fit.0, fit.1)

            short : (k : ℕ) → k < length (codes_in b) → get_or (codes_in b) k 0 ≤ 255
            short k h =
                let byte : code_in 1 b k < 256 = unfold code_in in (word_below b (2 + 1 * k) small 1) in
                rw (code_at b k (omega (arith, codes_count b)), ← one) (omega arith)
