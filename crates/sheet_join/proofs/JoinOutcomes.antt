-- A refused joining, and one that is not. Assumes nothing.
use Prim.Native.Nat.{ℕ}
use mathlib.Core.Path.{◌≡◌, refl, ap}
use mathlib.Core.List.{List}
use lib.ListN.{length, drop}
use lib.Seq.{drop_at}
use Rattle.refusal.specs.Answers.{Answered, given, refused, giving, unless_refused}
use Rattle.refusal.proofs.RefusedOutcomes.{outcome_answers, outcome_left}
use Rattle.matrix.specs.Matrix.{at}
use Rattle.sheet.specs.Format.{sheet_of}
use Rattle.sheet_writer.specs.Writer.{WriteOutcome, write_outcome, overwritten}
use Rattle.sheet_writer.proofs.SheetBytes.{sheet_long}
use Rattle.sheet_join.specs.Join.{joint_order, joint_sweeps, joint_codes, joint_matrix, joint_length, join_answer, joined_of, join_of}

module _ (b d l : List ℕ) where
  pub join_accepted_as : {o : WriteOutcome} → given tt ≡ join_answer b d (length l) → o ≡ joined_of b d l → o ≡ join_of b d l
  unfolding join_of
  join_accepted_as e f = rw (← e) f

  pub join_answers : (join_of b d l).answer ≡ giving (joint_length b d) (join_answer b d (length l))
  unfolding join_of
  join_answers =
      outcome_answers (λ (o : WriteOutcome). o.answer) (joined_of b d l) (λ a. write_outcome a l) refl (λ a. refl) (join_answer b d (length l))

  pub bytes_kept : (k : ℕ) (values : List ℕ) → (join_of b d l).answer ≡ refused k values → (join_of b d l).bytes ≡ l
  unfolding join_of
  bytes_kept k values e =
      ap (λ (o : WriteOutcome). o.bytes)
      (outcome_left (λ (o : WriteOutcome). o.answer) (joined_of b d l) (λ a. write_outcome a l) refl (λ a. refl) (join_answer b d (length l)) e)

  -- longer bytes keep their tail
  pub bytes_tail : drop (joint_length b d) (join_of b d l).bytes ≡ drop (joint_length b d) l
  unfolding join_of
  bytes_tail = go (join_answer b d (length l))
    where
      go : (a : Answered Unit)
          → drop (joint_length b d) (unless_refused a (joined_of b d l) (λ x. write_outcome x l)).bytes ≡ drop (joint_length b d) l
      go (given x) = unfold overwritten in
          (drop_at (sheet_of (joint_order b d) (joint_sweeps b d) (joint_codes b d) (at (joint_order b d) (joint_matrix b d))) (drop (joint_length b d) l)
          (joint_length b d) (sheet_long (joint_order b d) (joint_sweeps b d) (joint_codes b d) (at (joint_order b d) (joint_matrix b d))))
      go (refused k values) = refl
