-- A sheet of the short form is read as the reader of document 01 reads it, and that reader refuses the long form. Assumes nothing.
use Prim.Native.Nat.{ℕ, ◌*◌, ◌<◌, ◌≤◌}
use mathlib.Core.Path.{◌≡◌, refl, sym, ap, fun_ext}
use mathlib.Core.Bool.{Bool, true, false}
use mathlib.Core.List.{List, []}
use native.Mathlib.Omega.{arith}
use borrow.Author.Tests.{le-ltb}
use lib.ListN.{length, get_or}
use lib.Ieee.{Float}
use Rattle.refusal.specs.Answers.{refused, first}
use Rattle.lists.specs.Tabulate.{tabulate}
use Rattle.sizes.specs.Sizes.{is_order}
use Rattle.sizes.proofs.Orders.{order_is}
use Rattle.sheet.specs.Format.{long_form, width_in, order_in, codes_in, pattern_in, entry_in}
use Rattle.sheet.proofs.Forms.{width_short, order_short}
use Rattle.sheet_reader.specs.Reader.{long_in_vain, not_finite_in, stored_row, read_answer, read_outcome, content_of, read_of}
use Rattle.sheet_reader.proofs.SheetContents.{code_of_one}
use Rattle.sheet_agreement.specs.ShortReader.{short_codes_in, short_pattern_in, short_entry_in, short_stored_row, short_answer, short_read_of}

module _ (b : List ℕ) (short : get_or b 0 0 < long_form) where
  width : width_in b ≡ 1
  width = sym (width_short b short)

  order : order_in b ≡ get_or b 0 0
  order = sym (order_short b short)

  one_each : 1 * get_or b 0 0 ≡ get_or b 0 0
  one_each = omega arith

  codes : codes_in b ≡ short_codes_in b
  unfolding codes_in short_codes_in
  codes = rw (width, order) (ap (tabulate (get_or b 0 0)) (fun_ext (λ k. sym (code_of_one b k))))

  pattern : (i j : ℕ) → pattern_in b i j ≡ short_pattern_in b i j
  unfolding pattern_in short_pattern_in
  pattern i j = rw (width, order, one_each)

  entry : (i j : ℕ) → entry_in b i j ≡ short_entry_in b i j
  unfolding entry_in short_entry_in
  entry i j = rw (pattern i j, pattern j i)

  stored : stored_row b ≡ short_stored_row b
  unfolding stored_row short_stored_row not_finite_in
  stored = rw order (ap (first (get_or b 0 0)) (fun_ext (λ r. ap (first r) (fun_ext (λ c. rw (pattern r c))))))

  answer : (lc lm : ℕ) → read_answer b lc lm ≡ short_answer b lc lm
  unfolding read_answer short_answer long_in_vain
  answer lc lm = rw (stored, codes, width, order, one_each)

  pub read_as_before : (c : List ℕ) (m : List Float) → read_of b c m ≡ short_read_of b c m
  unfolding read_of content_of short_read_of
  read_as_before c m =
      let entries : entry_in b ≡ short_entry_in b = fun_ext (λ i. fun_ext (λ j. entry i j)) in
      rw (answer (length c) (length m), codes, entries, order)

-- no order has the 128 in it
no_order : (n : ℕ) → long_form ≤ n → is_order n ≡ false
no_order n h = go (is_order n) refl
  where
    go : (x : Bool) → is_order n ≡ x → x ≡ false
    go true e = absurd (omega (arith, (order_is n e).1))
    go false e = refl

pub refused_before : (b c : List ℕ) (m : List Float) → 2 ≤ length b → long_form ≤ get_or b 0 0
    → short_read_of b c m ≡ read_outcome (refused 1 []) c m
unfolding short_read_of short_answer
refused_before b c m head long = rw (le-ltb (length b) 2 head, no_order (get_or b 0 0) long)
