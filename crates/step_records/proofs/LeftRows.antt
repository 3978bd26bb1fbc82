-- What a call for the records of a step answers, and what it leaves in the row. Assumes nothing.
use Prim.Native.Nat.{ℕ}
use mathlib.Core.Path.{◌≡◌, refl, ap, ◌∙◌}
use mathlib.Core.List.{List}
use lib.ListN.{length, drop}
use lib.Ieee.{Float}
use Rattle.refusal.specs.Answers.{Answered, given, refused, unless_refused}
use Rattle.refusal.proofs.RefusedOutcomes.{giving_itself, outcome_answers, outcome_left}
use Rattle.lists.specs.Over.{over}
use Rattle.lists.proofs.Over.{drop_over}
use Rattle.sizes.specs.Sizes.{processors_of}
use Rattle.ordering.specs.Pairs.{registers_at}
use Rattle.step_records.specs.declared.Record.{Record}
use Rattle.step_records.specs.Records.{record_at, before_records, RowOutcome, row_outcome, records_of}

module _ (n : ℕ) (l : List Float) (step : ℕ) (ys : List Record) where
  abbrev before : Answered Unit
  before = before_records n l (length ys)

  abbrev written : List Record
  written = over (processors_of n) (record_at n l (registers_at n step)) ys

  pub records_answer : (records_of n l step ys).answer ≡ before
  unfolding records_of
  records_answer =
      outcome_answers (λ (o : RowOutcome). o.answer) (row_outcome (given tt) written) (λ a. row_outcome a ys) refl (λ a. refl) before ∙ giving_itself before

  pub row_kept : (k : ℕ) (values : List ℕ) → (records_of n l step ys).answer ≡ refused k values → (records_of n l step ys).row ≡ ys
  unfolding records_of
  row_kept k values e =
      ap (λ (o : RowOutcome). o.row)
      (outcome_left (λ (o : RowOutcome). o.answer) (row_outcome (given tt) written) (λ a. row_outcome a ys) refl (λ a. refl) before e)

  -- a longer row keeps its tail
  pub row_tail : drop (processors_of n) (records_of n l step ys).row ≡ drop (processors_of n) ys
  unfolding records_of
  row_tail = go before
    where
      go : (a : Answered Unit) → drop (processors_of n) (unless_refused a (row_outcome (given tt) written) (λ x. row_outcome x ys)).row
          ≡ drop (processors_of n) ys
      go (given x) = drop_over (processors_of n) (record_at n l (registers_at n step)) ys
      go (refused k values) = refl
