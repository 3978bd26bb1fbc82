-- The record of each processor, in a call that is not refused. Assumes nothing.
use Prim.Native.Nat.{ℕ, ◌*◌, ◌≤◌, ◌<◌}
use mathlib.Core.Path.{◌≡◌, refl, sym, ap, ◌∙◌}
use mathlib.Core.Bool.{Bool, true, false, not, true≢false}
use mathlib.Core.List.{List, [], ◌∷◌}
use native.Mathlib.Omega.{arith}
use borrow.Author.Tests.{eqb-true, ltb-true, ltb-false}
use lib.Dec.{ltb}
use lib.ListN.{length, get_or}
use lib.Ieee.{Float}
use Rattle.refusal.specs.Answers.{given, or_else, row, table}
use Rattle.refusal.specs.declared.Refusal.TheVariants.{Order, Length, TooShort}
use Rattle.refusal.proofs.FirstRefusal.{both_given, row_given}
use Rattle.lists.proofs.Over.{get_d_over}
use Rattle.sizes.specs.Sizes.{is_order, processors_of, still_of}
use Rattle.rotation.specs.Exact.{found_of}
use Rattle.ordering.specs.Pairs.{registers_at}
use Rattle.ordering.proofs.RegisterLines.{pair_real}
use Rattle.matrix.specs.Matrix.{at, entry_of}
use Rattle.matrix.specs.Entries.{is_square, entries_of, finite_row, mirror_row}
use Rattle.runs.specs.Blocks.{ruled_found}
use Rattle.runs.proofs.LineZero.{always_found}
use Rattle.matrix_turns.specs.Turns.{found_at, two_lines}
use Rattle.matrix_turns.proofs.LinePairs.{two_lines_lem, pair_entries, from_three}
use Rattle.step_records.specs.declared.Record.{Record}
use Rattle.step_records.proofs.RecordRefusals.{by_parts}
use Rattle.step_records.proofs.LeftRows.{records_answer}
use Rattle.step_records.specs.Records.{record_of, record_at, before_records, records_of}

-- what is known where nothing is refused
pub record AcceptedCall (n : ℕ) (l : List Float) (room : ℕ) : Type 0 where
  pub order : is_order n ≡ true
  pub long : length l ≡ n * n
  pub entries : entries_of n l ≡ given tt
  pub enough : processors_of n ≤ room

pub accepted_call : (n : ℕ) (l : List Float) (room : ℕ) → before_records n l room ≡ given tt → AcceptedCall n l room
unfolding entries_of
accepted_call n l room e =
    let short = row (ltb room (processors_of n)) TooShort in
    let order = both_given (row (not (is_order n)) Order) (or_else (entries_of n l) short) (sym (by_parts n l room) ∙ e) in
    let entries = both_given (entries_of n l) short order.1 in
    let square = both_given (row (not (is_square n (length l))) Length) (table (finite_row n l ∷ mirror_row n l ∷ [])) entries.0 in
    record {
      order = positive (is_order n) (row_given _ Order order.0);
      long = eqb-true _ _ (positive (is_square n (length l)) (row_given _ Length square.0));
      entries = entries.0;
      enough = ltb-false _ _ (row_given _ TooShort entries.1);
    }
  where
    positive : (b : Bool) → not b ≡ false → b ≡ true
    positive true e = refl
    positive false e = absurd (true≢false e)

-- the answer is that of the tests before it
pub answer_given : (n : ℕ) (l : List Float) (step : ℕ) (ys : List Record) → (records_of n l step ys).answer ≡ given tt
    → before_records n l (length ys) ≡ given tt
answer_given n l step ys e = sym (records_answer n l step ys) ∙ e

-- what a processor finds of its pair, from the list
found_read : (n k p q : ℕ) (l : List Float) → (still_of n ≤ k → two_lines n p q (length l) ≡ true)
    → ruled_found n k (found_at p q (entry_of n l)) ≡ ruled_found n k (found_at p q (at n l))
found_read n k p q l two = go (ltb k (still_of n)) refl
  where
    go : (b : Bool) → ltb k (still_of n) ≡ b → ruled_found n k (found_at p q (entry_of n l)) ≡ ruled_found n k (found_at p q (at n l))
    go true e = let h = ltb-true _ _ e in sym (always_found n k (found_at p q (entry_of n l)) h) ∙ always_found n k (found_at p q (at n l)) h
    go false e =
        let t = pair_entries n p q l (two (ltb-false _ _ e)) in
        from_three (λ (a d b : Float). ruled_found n k (found_of a d b)) t.0 t.1 t.2

module _ (n : ℕ) (l : List Float) (step : ℕ) (ys : List Record) (other : Record) (accepted : (records_of n l step ys).answer ≡ given tt) where
  abbrev left : ℕ → ℕ
  left k = get_or (registers_at n step).left k 0

  abbrev right : ℕ → ℕ
  right k = get_or (registers_at n step).right k 0

  pub record_found : (k : ℕ) → k < processors_of n
      → get_or (records_of n l step ys).row k other ≡ record_of (ruled_found n k (found_at (left k) (right k) (at n l)))
  unfolding records_of record_at
  record_found k below =
      let before = answer_given n l step ys accepted in
      let w = accepted_call n l (length ys) before in
      rw before
      (get_d_over (processors_of n) _ ys k other below (omega (arith, w.enough))
      ∙ ap record_of (found_read n k _ _ l (λ h. two_lines_lem n _ _ (length l) (pair_real n w.order step k below h) w.long)))
