-- What a call writes fits the row, and with its answer it is the outcome. Assumes nothing.
use Prim.Native.Nat.{ℕ, zero, suc, ◌≤◌, zero-le}
use mathlib.Core.Path.{◌≡◌, refl, ap}
use mathlib.Core.List.{List, [], ◌∷◌, ◌++◌}
use lib.Ieee.{Float}
use lib.ListN.{length, take, drop}
use lib.Seq.{length-take-le}
use Rattle.refusal.specs.Answers.{Answered, given, refused}
use Rattle.lists.specs.Over.{over}
use Rattle.lists.proofs.Over.{over_next}
use Rattle.ordering.specs.declared.Registers.{Registers}
use Rattle.sizes.specs.Sizes.{processors_of}
use Rattle.ordering.specs.Pairs.{or_none, registers_at}
use Rattle.step_records.specs.declared.Record.{Record}
use Rattle.step_records.specs.Records.{record_at, before_records, row_outcome, records_of, written}
use Rattle.step_records.proofs.FoundRecords.{accepted_call}

pub room_enough : (n : ℕ) (l : List Float) (room : ℕ) → before_records n l room ≡ given tt → processors_of n ≤ room
room_enough n l room e = (accepted_call n l room e).enough

-- Nothing is written to a row that is too short.
pub written_fits : (n : ℕ) (l : List Float) (room : ℕ) → written n (before_records n l room) ≤ room
written_fits n l room = go (before_records n l room) refl
  where
    go : (a : Answered Unit) → before_records n l room ≡ a → written n a ≤ room
    go (given tt) e = room_enough n l room e
    go (refused k values) e = zero-le

-- ---- the row in two parts
pub over_front : {A : Type 0} (m : ℕ) (f : ℕ → A) (l : List A) → over m f (take m l) ++ drop m l ≡ over m f l
over_front zero f l = refl
over_front (suc m) f [] = refl
over_front {A} (suc m) f (x ∷ l) = ap {B = List A} (λ t. f 0 ∷ t) (over_front m (λ k. f (suc k)) l)

module _ (n : ℕ) (l : List Float) (step : ℕ) (ys : List Record) where
  -- what a refused call leaves
  pub row_left : (k : ℕ) (values : List ℕ) → before_records n l (length ys) ≡ refused k values → records_of n l step ys ≡ row_outcome (refused k values) ys
  unfolding records_of
  row_left k values e = rw e

  -- and one that is not refused
  pub row_written : (front : List Record) (r : Registers) → before_records n l (length ys) ≡ given tt → r ≡ or_none n (registers_at n step)
      → front ≡ over (processors_of n) (record_at n l r) (take (processors_of n) ys)
      → records_of n l step ys ≡ row_outcome (given tt) (front ++ drop (processors_of n) ys)
  unfolding records_of
  row_written front r e a b = rw (b, a, e, (accepted_call n l (length ys) e).order, over_front)

-- What writing a row is proved by.
pub ruleset row_steps = (row_left, row_written, room_enough, length-take-le, over_next)
