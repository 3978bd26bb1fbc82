-- The refusals of the writer, in their order. Assumes nothing.
use Prim.Native.Nat.{ℕ, ◌*◌, ◌<◌, ◌≤◌}
use mathlib.Core.Path.{◌≡◌, refl, sym, ◌∙◌}
use mathlib.Core.Bool.{Bool, true, false, not, ◌&&◌}
use mathlib.Core.List.{List, [], ◌∷◌}
use borrow.Author.Tests.{lt-ltb, le-ltb, eq-eqb, ne_eqb, eqb-true, ltb-false}
use lib.Dec.{eqb, ltb}
use lib.ListN.{length}
use lib.Ieee.{Float}
use Rattle.refusal.specs.Answers.{Answered, given, refused_by, or_else, row, table}
use Rattle.refusal.specs.declared.Refusal.TheVariants.{Length, Code, TooShort}
use Rattle.refusal.proofs.FirstRefusal.{refused_given, both_given, row_given, table_joined}
use Rattle.sizes.specs.Sizes.{is_order, most_sweeps, largest_order, sizes_answer}
use Rattle.sizes.proofs.Orders.{order_is, sizes_given, sizes_first, sizes_fine}
use Rattle.matrix.specs.Entries.{is_square, finite_row, mirror_row, entries_of}
use Rattle.sheet.specs.Format.{length_for}
use Rattle.sheet.specs.Codes.{bad_codes, width_for}
use Rattle.sheet.proofs.Forms.{width_for_fits}
use Rattle.sheet.proofs.Triangle.{few_entries}
use Rattle.sheet_writer.specs.Writer.{write_answer}

module _ (n sweeps : ℕ) (codes : List ℕ) (l : List Float) (lb : ℕ) where
  -- the last row, and the rows from the codes and from the lengths on
  abbrev room_rows : List (Answered Unit)
  room_rows = row (ltb lb (length_for n codes)) TooShort ∷ []

  abbrev code_rows : List (Answered Unit)
  code_rows = row (bad_codes codes) Code ∷ finite_row n l ∷ mirror_row n l ∷ room_rows

  abbrev length_rows : List (Answered Unit)
  length_rows = row (not (eqb (length codes) n && is_square n (length l))) Length ∷ code_rows

  -- the whole table, with the rows of the sizes as one answer
  pub by_sizes : write_answer n sweeps codes l lb ≡ or_else (sizes_answer n sweeps) (table length_rows)
  unfolding write_answer
  by_sizes = sym (sizes_first n sweeps (table length_rows))

  pub codes_length : ¬ (length codes ≡ n) → table length_rows ≡ refused_by Length
  codes_length e = rw (ne_eqb (length codes) n e)

  pub matrix_length : length codes ≡ n → ¬ (length l ≡ n * n) → table length_rows ≡ refused_by Length
  matrix_length e f = rw (eq-eqb (length codes) n e, ne_eqb (length l) (n * n) f)

  pub right_lengths : length codes ≡ n → length l ≡ n * n → table length_rows ≡ table code_rows
  right_lengths e f = rw (eq-eqb (length codes) n e, eq-eqb (length l) (n * n) f)

  pub codes_refused : bad_codes codes ≡ true → table code_rows ≡ refused_by Code
  codes_refused e = rw e

  -- the rows of the entries as one answer
  pub by_entries : bad_codes codes ≡ false → length l ≡ n * n → table code_rows ≡ or_else (entries_of n l) (table room_rows)
  unfolding entries_of
  by_entries e f = rw (e, eq-eqb (length l) (n * n) f) (table_joined (finite_row n l ∷ mirror_row n l ∷ []) room_rows)

  pub no_room : lb < length_for n codes → table room_rows ≡ refused_by TooShort
  no_room h = rw (lt-ltb lb (length_for n codes) h)

  pub room_enough : length_for n codes ≤ lb → table room_rows ≡ given tt
  room_enough h = rw (le-ltb lb (length_for n codes) h)

-- what the sizes and the codes say of what is computed
pub order_small : (n sweeps : ℕ) → sizes_answer n sweeps ≡ given tt → n ≤ largest_order
order_small n sweeps e = (order_is n (sizes_given n sweeps e).0).1

pub square_small : (n sweeps : ℕ) → sizes_answer n sweeps ≡ given tt → n * n ≤ largest_order * largest_order
square_small n sweeps e = (few_entries n (order_small n sweeps e)).0

pub width_most : (codes : List ℕ) → width_for codes ≤ 2
width_most codes = (width_for_fits codes).1

-- What a verdict is proved by.
pub ruleset write_tests = (by_sizes, codes_length, matrix_length, right_lengths, codes_refused, by_entries, no_room, room_enough, order_small, square_small, width_most)

-- what is known of a sheet that is written
pub record Writable (n sweeps : ℕ) (codes : List ℕ) (l : List Float) (lb : ℕ) : Type 0 where
  pub order : is_order n ≡ true
  pub few : sweeps ≤ most_sweeps
  pub codes_long : length codes ≡ n
  pub matrix_long : length l ≡ n * n
  pub codes_good : bad_codes codes ≡ false
  pub entries_good : entries_of n l ≡ given tt
  pub room : length_for n codes ≤ lb

both_long : (p q : Bool) → row (not (p && q)) Length ≡ given tt → (p ≡ true) × (q ≡ true)
both_long false q e = refused_given e
both_long true false e = refused_given e
both_long true true e = (refl, refl)

pub writable : (n sweeps : ℕ) (codes : List ℕ) (l : List Float) (lb : ℕ) → write_answer n sweeps codes l lb ≡ given tt → Writable n sweeps codes l lb
writable n sweeps codes l lb e =
    let below = both_given (sizes_answer n sweeps) (table (length_rows n sweeps codes l lb)) (sym (by_sizes n sweeps codes l lb) ∙ e) in
    let sizes = sizes_given n sweeps below.0 in
    let lengths = both_given _ (table (code_rows n sweeps codes l lb)) below.1 in
    let long = both_long (eqb (length codes) n) (is_square n (length l)) lengths.0 in
    let square = eqb-true (length l) (n * n) long.1 in
    let good = row_given _ Code (both_given (row (bad_codes codes) Code) _ lengths.1).0 in
    let entries = both_given (entries_of n l) (table (room_rows n sweeps codes l lb)) (sym (by_entries n sweeps codes l lb good square) ∙ lengths.1) in
    record {
      order = sizes.0;
      few = sizes.1;
      codes_long = eqb-true _ _ long.0;
      matrix_long = square;
      codes_good = good;
      entries_good = entries.0;
      room = ltb-false _ _ (row_given _ TooShort (both_given (row (ltb lb (length_for n codes)) TooShort) (given tt) entries.1).0);
    }

-- and the other way round
pub writable_accepted : (n sweeps : ℕ) (codes : List ℕ) (l : List Float) (lb : ℕ) → Writable n sweeps codes l lb → write_answer n sweeps codes l lb ≡ given tt
writable_accepted n sweeps codes l lb w =
    by_sizes n sweeps codes l lb
    ∙ rw (
      ← sizes_fine n sweeps w.order w.few,
      right_lengths n sweeps codes l lb w.codes_long w.matrix_long,
      by_entries n sweeps codes l lb w.codes_good w.matrix_long,
      w.entries_good,
    ) (room_enough n sweeps codes l lb w.room)
