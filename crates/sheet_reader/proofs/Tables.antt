-- The refusals of the reader, in their order. Assumes nothing.
use Prim.Native.Nat.{ℕ, ◌*◌, ◌<◌, ◌≤◌}
use mathlib.Core.Path.{◌≡◌, refl, sym, ap, ◌∙◌}
use mathlib.Core.Bool.{Bool, true, false, not, ◌&&◌, ◌||◌, true≢false}
use mathlib.Core.List.{List, [], ◌∷◌}
use borrow.Author.Tests.{lt-ltb, le-ltb, eq-eqb, ne_eqb, eqb-true, ltb-false}
use lib.Dec.{eqb, ltb}
use lib.ListN.{length}
use Rattle.refusal.specs.Answers.{Answered, given, refused_by, or_else, row, table}
use Rattle.refusal.specs.declared.Refusal.{Refusal}
use Rattle.refusal.specs.declared.Refusal.TheVariants.{Length, Code}
use Rattle.refusal.proofs.FirstRefusal.{refused_given, both_given, row_given, else_none}
use Rattle.lists.proofs.Bounded.{or_false, false_or}
use Rattle.sizes.specs.Sizes.{is_order, most_sweeps, largest_order, sizes_answer}
use Rattle.sizes.proofs.Orders.{order_is, sizes_fine, sizes_given, sizes_first}
use Rattle.matrix.specs.Entries.{is_square}
use Rattle.sheet.specs.Format.{sheet_length, width_in, order_in, sweeps_in, length_in, codes_in}
use Rattle.sheet.specs.Codes.{bad_codes}
use Rattle.sheet.proofs.Forms.{width_fits}
use Rattle.sheet.proofs.Triangle.{few_entries}
use Rattle.sheet_reader.specs.Reader.{OfForm, long_in_vain, stored_row, sheet_answer, read_answer}

-- two rows with one refusal
either : (p q : Bool) (r : Refusal) (rest : Answered Unit) → (p || q) ≡ true → refused_by r ≡ or_else (row p r) (or_else (row q r) rest)
either true q r rest e = refl
either false true r rest e = refl
either false false r rest e = absurd (true≢false (sym e))

module _ (b : List ℕ) where
  -- the rows below those of the lengths
  abbrev content_rows : List (Answered Unit)
  content_rows = row (bad_codes (codes_in b)) Code ∷ row (long_in_vain b) Code ∷ stored_row b ∷ []

  module _ (lc lm : ℕ) where
    -- the rows below those of the sizes
    abbrev length_rows : List (Answered Unit)
    length_rows = row (not (eqb lc (order_in b) && (is_square (order_in b) lm && eqb (length b) (length_in b)))) Length ∷ content_rows

    -- the whole table, with the rows of the sizes as one answer
    by_head : or_else (row (ltb (length b) 2) Length) (or_else (sizes_answer (order_in b) (sweeps_in b)) (table length_rows)) ≡ read_answer b lc lm
    unfolding read_answer
    by_head = ap (or_else (row (ltb (length b) 2) Length)) (sizes_first (order_in b) (sweeps_in b) (table length_rows))

    pub head_short : length b < 2 → read_answer b lc lm ≡ refused_by Length
    head_short h = sym (rw (← by_head, lt-ltb (length b) 2 h))

    pub by_sizes : 2 ≤ length b → read_answer b lc lm ≡ or_else (sizes_answer (order_in b) (sweeps_in b)) (table length_rows)
    by_sizes h = sym (rw (← by_head, le-ltb (length b) 2 h))

    -- the order and the width as they were found
    pub codes_length : ¬ (lc ≡ order_in b) → table length_rows ≡ refused_by Length
    codes_length e = rw (ne_eqb lc (order_in b) e)

    pub matrix_length : lc ≡ order_in b → ¬ (lm ≡ order_in b * order_in b) → table length_rows ≡ refused_by Length
    matrix_length e f = rw (eq-eqb lc (order_in b) e, ne_eqb lm (order_in b * order_in b) f)

    pub sheet_length_lem : lc ≡ order_in b → lm ≡ order_in b * order_in b → ¬ (length b ≡ sheet_length (width_in b) (order_in b)) → table length_rows ≡ refused_by Length
    sheet_length_lem e f g = rw (eq-eqb lc (order_in b) e, eq-eqb lm (order_in b * order_in b) f, ne_eqb (length b) (length_in b) g)

    pub right_lengths : lc ≡ order_in b → lm ≡ order_in b * order_in b → length b ≡ sheet_length (width_in b) (order_in b) → table length_rows ≡ table content_rows
    right_lengths e f g = rw (eq-eqb lc (order_in b) e, eq-eqb lm (order_in b * order_in b) f, eq-eqb (length b) (length_in b) g)

  -- both rows of the codes as one test
  pub codes_refused : (bad_codes (codes_in b) || long_in_vain b) ≡ true → table content_rows ≡ refused_by Code
  codes_refused e = sym (either (bad_codes (codes_in b)) (long_in_vain b) Code _ e)

  pub codes_accepted : (bad_codes (codes_in b) || long_in_vain b) ≡ false → table content_rows ≡ stored_row b
  codes_accepted e = let w = or_false (bad_codes (codes_in b)) (long_in_vain b) e in rw (w.0, w.1, else_none)

-- what the sizes say of the order
pub order_small : (n sweeps : ℕ) → sizes_answer n sweeps ≡ given tt → n ≤ largest_order
order_small n sweeps e = (order_is n (sizes_given n sweeps e).0).1

pub square_small : (n sweeps : ℕ) → sizes_answer n sweeps ≡ given tt → n * n ≤ largest_order * largest_order
square_small n sweeps e = (few_entries n (order_small n sweeps e)).0

pub width_most : (b : List ℕ) → width_in b ≤ 2
width_most b = (width_fits b).1

-- What a verdict is proved by.
pub ruleset read_tests = (head_short, by_sizes, codes_length, matrix_length, sheet_length_lem, right_lengths, codes_refused, codes_accepted, order_small, square_small, width_most)

-- what is known of a sheet that is accepted
pub record Readable (b : List ℕ) (lc lm : ℕ) : Type 0 where
  pub head : 2 ≤ length b
  pub order : is_order (order_in b) ≡ true
  pub few : sweeps_in b ≤ most_sweeps
  pub codes_long : lc ≡ order_in b
  pub matrix_long : lm ≡ order_in b * order_in b
  pub sheet_long : length b ≡ length_in b
  pub codes_good : bad_codes (codes_in b) ≡ false
  pub form_good : long_in_vain b ≡ false
  pub entries_good : stored_row b ≡ given tt

all_long : (p q r : Bool) → row (not (p && (q && r))) Length ≡ given tt → (p ≡ true) × (q ≡ true) × (r ≡ true)
all_long false q r e = refused_given e
all_long true false r e = refused_given e
all_long true true false e = refused_given e
all_long true true true e = (refl, refl, refl)

pub readable : (b : List ℕ) (lc lm : ℕ) → read_answer b lc lm ≡ given tt → Readable b lc lm
readable b lc lm e =
    let top = both_given (row (ltb (length b) 2) Length) _ (by_head b lc lm ∙ e) in
    let below = both_given (sizes_answer (order_in b) (sweeps_in b)) (table (length_rows b lc lm)) top.1 in
    let sizes = sizes_given (order_in b) (sweeps_in b) below.0 in
    let lengths = both_given _ (table (content_rows b)) below.1 in
    let long = all_long (eqb lc (order_in b)) (is_square (order_in b) lm) (eqb (length b) (length_in b)) lengths.0 in
    let content = both_given (row (bad_codes (codes_in b)) Code) (or_else (row (long_in_vain b) Code) (or_else (stored_row b) (given tt))) lengths.1 in
    let form = both_given (row (long_in_vain b) Code) (or_else (stored_row b) (given tt)) content.1 in
    record {
      head = ltb-false _ _ (row_given _ Length top.0);
      order = sizes.0;
      few = sizes.1;
      codes_long = eqb-true _ _ long.0;
      matrix_long = eqb-true _ _ long.1;
      sheet_long = eqb-true _ _ long.2;
      codes_good = row_given _ Code content.0;
      form_good = row_given _ Code form.0;
      entries_good = (both_given (stored_row b) (given tt) form.1).0;
    }

-- and the other way round
pub readable_accepted : (b : List ℕ) (lc lm : ℕ) → Readable b lc lm → read_answer b lc lm ≡ given tt
readable_accepted b lc lm r =
    by_sizes b lc lm r.head
    ∙ rw (← sizes_fine (order_in b) (sweeps_in b) r.order r.few, right_lengths b lc lm r.codes_long r.matrix_long r.sheet_long) (
    codes_accepted b (false_or _ _ r.codes_good r.form_good) ∙ r.entries_good)

pub readable_form : (b : List ℕ) (lc lm : ℕ) → Readable b lc lm → {w n : ℕ} → w ≡ width_in b → n ≡ order_in b → OfForm w n b
readable_form b lc lm r e f = (e, f, rw f (order_is _ r.order).1, rw (e, f) r.sheet_long)

-- where the codes and the matrix are lent in the right lengths, the sheet alone decides
pub lent_right : (b : List ℕ) → read_answer b (order_in b) (order_in b * order_in b) ≡ sheet_answer b
unfolding read_answer sheet_answer
lent_right b = rw (eq-eqb (order_in b) (order_in b) refl, eq-eqb (order_in b * order_in b) (order_in b * order_in b) refl)
