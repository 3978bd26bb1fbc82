-- The plain run and the records of a step, each part by the law that proves it. Assumes nothing.
use Prim.Native.Nat.{ℕ, zero, suc, ◌-◌}
use mathlib.Core.Path.{◌≡◌, refl, sym, ap, ◌∙◌}
use mathlib.Core.Bool.{Bool, true, false, not, ◌&&◌, ◌||◌}
use mathlib.Core.List.{List}
use mathlib.Core.Logic.{◌⊎◌, inl, inr}
use native.Mathlib.Omega.{arith}
use lib.ListN.{get_or}
use lib.Ieee.{Float}
use Rattle.float64.specs.Values.{plus_zero, finite}
use Rattle.rotation.specs.declared.Parameters.{Parameters}
use Rattle.rotation.specs.declared.Parameters.TheVariants.{Still, Turn}
use Rattle.rotation.specs.declared.Found.{Found}
use Rattle.ordering.specs.declared.Registers.{Registers}
use Rattle.ordering.specs.declared.PairList.{PairList}
use Rattle.ordering.specs.Pairs.{registers_at}
use Rattle.ordering.proofs.OrderRegisters.{of_order}
use Rattle.sizes.specs.Sizes.{is_order, processors_of, first_line}
use Rattle.matrix.specs.Matrix.{at}
use Rattle.matrix.proofs.SameEntries.{read_again}
use Rattle.matrix.proofs.AcceptedEntries.{accepted_if}
use Rattle.matrix_turns.specs.Turns.{found_at}
use Rattle.runs.specs.State.{State, bordered, start_of, identity}
use Rattle.runs.specs.Blocks.{ruled_found}
use Rattle.runs.proofs.LineZero.{bordered_real, row_0, column_0, always_found, own_found}
use Rattle.plain_run.specs.State.{pairs_rotated, after, spoiled}
use Rattle.plain_run.specs.Quiet.{answered_run_of}
use Rattle.plain_run.proofs.SweepsMade.{answered_given}
use Rattle.plain_run.proofs.ProcessorPairs.{one_pair_more}
use Rattle.plain_run.proofs.RunResults.{last_matrices, spoiled_by, BadEntry, bad_entry, bad_real_entry}
use Rattle.step_records.specs.declared.Record.{Record}
use Rattle.step_records.specs.Records.{record_with}
use Rattle.step_records.proofs.FoundRecords.{accepted_call, record_found, answer_given}
use Rattle.claims.specs.PlainRuns.{processors_turned, PlainSteps, RunLeavesLastStep, NotFiniteIn, NotFiniteAfter}
use Rattle.claims.specs.PlainRuns.{recorded, RecordsFound, PlainRunsAsStated}
use Rattle.claims.specs.Histories.{CovarianceMatrix}
use Rattle.claims.proofs.FirstProcessor.{is_first, not_first}

pub in_order : (n : ℕ) (list : PairList) (k : ℕ) (X : State)
    → pairs_rotated n list.registers.left list.registers.right k X ≡ processors_turned n list k X
unfolding pairs_rotated processors_turned
in_order n list zero X = refl
in_order n list (suc k) X =
    let e : suc k - 1 ≡ k = omega arith in
    one_pair_more n list.registers.left list.registers.right k X ∙ rw (e, in_order n list k X)

line_0 : (A : ℕ → ℕ → Float) (r c : ℕ) → (r ≡ 0) ⊎ (c ≡ 0) → bordered A r c ≡ plus_zero
line_0 A r c (inl e) = sym (row_0 A r c e)
line_0 A r c (inr e) = sym (column_0 A r c e)

steps : PlainSteps
unfolding after start_of identity
steps n order list lists =
    record {
      matrix_at_first = λ l. bordered_real (at n l);
      vectors_at_first = λ l. bordered_real identity;
      line_0_at_first = λ l r c e. (line_0 (at n l) r c e, line_0 identity r c e);
      one_more_step = λ k X.
          ap (λ (r : Registers). pairs_rotated n r.left r.right (processors_of n) (after n k X)) (sym (of_order n order (lists k).lists))
          ∙ in_order n (list k) (processors_of n) (after n k X);
    }

last_step : RunLeavesLastStep
unfolding answered_run_of
last_step n sweeps l r v reported e i j h =
    let w = last_matrices n sweeps l r v (answered_given n sweeps l r v reported e).0 in
    (rw w.0 (read_again n _ i j (h.0, h.1) (h.2, h.3)), rw w.1 (read_again n _ i j (h.0, h.1) (h.2, h.3)))

-- a test of both, one way and the other
both_to : (a b : Bool) → (a && b) ≡ false → (not a || not b) ≡ true
both_to true true e = sym e
both_to true false e = refl
both_to false b e = refl

both_from : (a b : Bool) → (not a || not b) ≡ true → (a && b) ≡ false
both_from true true e = sym e
both_from true false e = refl
both_from false b e = refl

-- the entry of the page and that of the law
module _ {b n : ℕ} {Y : State} where
  to_law : NotFiniteIn b n Y → BadEntry b n Y
  to_law w =
      record {
        row = w.line_row;
        column = w.line_column;
        row_within = w.row_within;
        column_within = w.column_within;
        is_bad = both_to (finite (Y.matrix w.line_row w.line_column)) (finite (Y.vectors w.line_row w.line_column)) w.not_finite;
      }

  from_law : BadEntry b n Y → NotFiniteIn b n Y
  from_law w =
      record {
        line_row = w.row;
        line_column = w.column;
        row_within = w.row_within;
        column_within = w.column_within;
        not_finite = both_from (finite (Y.matrix w.row w.column)) (finite (Y.vectors w.row w.column)) w.is_bad;
      }

is_spoiled : (n K : ℕ) (X : State) → NotFiniteAfter n K X → spoiled n K X ≡ true
is_spoiled n K X w =
    let k : suc (w.step - 1) ≡ w.step = omega (arith, w.step_above) in
    spoiled_by n K X (w.step - 1) (omega (arith, w.step_above, w.step_within)) (rw k (to_law w.entry))

spoiled_is : (n K : ℕ) (X : State) → spoiled n K X ≡ true → NotFiniteAfter n K X
spoiled_is n K X e =
    let w = bad_entry n K X e in
    record { step = suc w.0; step_above = omega arith; step_within = w.1; entry = from_law w.2 }

real_line : (n step : ℕ) (l : List Float) → is_order n ≡ true → CovarianceMatrix n l
    → NotFiniteIn (first_line n) n (after n step (start_of n l)) → NotFiniteIn 1 n (after n step (start_of n l))
real_line n step l order m w =
    from_law (bad_real_entry n l order m.of_binary64 (accepted_if n l m.long m.all_finite m.mirrored) step (to_law w))

same_record : (P : Parameters) (exact : Bool) → record_with P exact ≡ recorded P exact
same_record Still exact = refl
same_record (Turn t c s) exact = refl

-- what is found of a processor's pair, in a matrix as lent
abbrev found_by : ℕ → List Float → ℕ → Registers → Found
found_by n l k r = found_at (get_or r.left (k - 1) 0) (get_or r.right (k - 1) 0) (at n l)

abbrev recorded_as : Found → Record
recorded_as f = recorded f.parameters f.exact

records : RecordsFound
records n l step ys other list e lists k a b =
    let order = (accepted_call n l _ (answer_given n l step ys e)).order in
    let lent = ruled_found n (k - 1) (found_by n l k (registers_at n step)) in
    let found = record_found n l step ys other e (k - 1) (omega arith) ∙ same_record lent.parameters lent.exact
    ∙ ap (λ (r : Registers). recorded_as (ruled_found n (k - 1) (found_by n l k r))) (sym (of_order n order lists.lists)) in (
      λ f. found ∙ ap recorded_as (sym (own_found n (k - 1) _ (not_first n k a f))),
      λ f. found ∙ ap recorded_as (sym (always_found n (k - 1) _ (is_first n k f))),
    )

pub plain_runs_as_stated : PlainRunsAsStated
plain_runs_as_stated =
    record {
      plain_steps = steps;
      run_leaves_last_step = last_step;
      spoiled_means = record { is_spoiled = is_spoiled; spoiled_is = spoiled_is; real_line = real_line };
      records_found = records;
    }
