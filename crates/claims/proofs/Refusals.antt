-- Demand 1, each part by the law that proves it. Assumes nothing.
use Prim.Native.Nat.{ℕ}
use mathlib.Core.Path.{refl, ap, ◌∙◌}
use mathlib.Core.List.{List}
use lib.ListN.{length}
use lib.Ieee.{Float, nan}
use Rattle.refusal.specs.Answers.{giving}
use Rattle.refusal.proofs.RefusedOutcomes.{giving_refused}
use Rattle.root.specs.Exact.{exact_root, flagged}
use Rattle.root.proofs.AnsweredRoots as root
use Rattle.sizes.specs.Sizes.{sizes_answer}
use Rattle.runs.specs.State.{start_of}
use Rattle.runs.specs.Outcome.{before_run, Outcome, answering}
use Rattle.plain_run.specs.Run.{run_of}
use Rattle.plain_run.specs.Quiet.{report_of, answered_run_of}
use Rattle.plain_run.proofs.RefusedRuns.{run_answers, run_kept, run_zeroed}
use Rattle.step_records.specs.Records.{before_records}
use Rattle.step_records.proofs.LeftRows.{records_answer, row_kept, row_tail}
use Rattle.tile_schedule.specs.Answers.{progress_of}
use Rattle.array.proofs.RefusedRecords.{start_none, tick_back}
use Rattle.array_run.specs.Results.{WholeReport}
use Rattle.array_agreement.proofs.QuietRuns.{whole_report, whole_agrees}
use Rattle.sheet_reader.specs.Reader.{long_in_vain, sheet_answer, read_answer}
use Rattle.sheet_reader.proofs.SheetContents.{read_answers, lent_kept}
use Rattle.sheet_reader.proofs.Tables.{lent_right}
use Rattle.sheet_writer.specs.Writer.{write_answer}
use Rattle.sheet_writer.proofs.SheetBytes.{write_answers, bytes_kept, bytes_tail}
use Rattle.sheet_join.specs.Join.{joint_codes, joint_length}
use Rattle.sheet_join.proofs.JoinOutcomes as joining
use Rattle.sheet_join.proofs.Tables.{by_limit}
use Rattle.sheet_agreement.proofs.SharedCodes.{one_shared, none_shared}
use Rattle.claims.specs.Refusals.{NumbersAsTabled, PlainRunAnswers, WholeRunAnswers, LeavesResults, RunsLeave, JoinAnswers, JoinLeaves}
use Rattle.claims.specs.Refusals.{RefusedAsTabled}
use Rattle.claims.proofs.Places.{entries_tested}

numbers : NumbersAsTabled
numbers =
    record {
      order_1 = refl;
      sweeps_2 = refl;
      length_3 = refl;
      code_4 = refl;
      not_finite_5 = λ r c. refl;
      not_mirrored_6 = λ r c. refl;
      too_short_7 = refl;
      spoiled_8 = refl;
      no_root_9 = refl;
      shared_code_10 = refl;
    }

-- ---- runs
plain_run : PlainRunAnswers
unfolding before_run answered_run_of
plain_run n sweeps l r v = ap (giving (report_of n sweeps (start_of n l))) (run_answers n sweeps l r v)

whole_run : WholeRunAnswers
unfolding before_run
whole_run n sweeps l r v fit =
    ap (λ (o : Outcome WholeReport). o.answer) (whole_agrees n sweeps l r v fit) ∙ ap (giving (whole_report n sweeps l)) (run_answers n sweeps l r v)

-- whatever value stands in the answer
answering_leaves : {B : Type 0} (n sweeps : ℕ) (l r v : List Float) (x : B) → LeavesResults n (answering x (run_of n sweeps l r v)) r v
answering_leaves n sweeps l r v x =
    record {
      kept = λ k values e. run_kept n sweeps l r v k values (giving_refused x (run_of n sweeps l r v).answer e);
      zeroed = λ values e. run_zeroed n sweeps l r v values (giving_refused x (run_of n sweeps l r v).answer e);
    }

runs_leave : RunsLeave
runs_leave n sweeps l r v fit = (
  unfold answered_run_of in (answering_leaves n sweeps l r v _),
  rw (whole_agrees n sweeps l r v fit) (answering_leaves n sweeps l r v _),
)

-- ---- joining two sheets
join_answers : JoinAnswers
unfolding joint_codes
join_answers b d l = joining.join_answers b d l ∙ ap (giving (joint_length b d)) (by_limit b d (length l))

join_leaves : JoinLeaves
unfolding joint_codes
join_leaves b d l = (joining.bytes_kept b d l, joining.bytes_tail b d l)

pub refused_as_tabled : RefusedAsTabled
unfolding before_run before_records long_in_vain sheet_answer read_answer write_answer progress_of sizes_answer
refused_as_tabled =
    record {
      numbers_as_tabled = numbers;
      entries_are_tested = entries_tested;
      root_answers =
          record {
            not_a_number = ap (flagged (exact_root nan)) root.root_of_nan;
            below_zero = λ x h. ap (flagged (exact_root x)) (root.root_below x h);
            others = λ x h k. let w = root.root_other x h k in ((w.0, exact_root x), ap (flagged (exact_root x)) w.1);
          };
      pairs_answer = λ n step r h. (h.answers, λ e. h.lists ∙ rw e);
      plain_run_answers = plain_run;
      whole_run_answers = whole_run;
      runs_leave = runs_leave;
      start_answers = λ n sweeps l s h. (h.answers, start_none n sweeps l s h);
      tick_answers = λ x r h. (h.answers, tick_back x r h);
      records_answer = records_answer;
      records_leave = λ n l step ys. (row_kept n l step ys, row_tail n l step ys);
      reader_answers = read_answers;
      sheet_answers = record { by_bytes = λ b. refl; lent_right = lent_right };
      reader_leaves = lent_kept;
      writer_answers = write_answers;
      writer_leaves = λ n sweeps codes l b. (bytes_kept n sweeps codes l b, bytes_tail n sweeps codes l b);
      shared_codes = λ codes others. record { shared = one_shared codes others; apart = none_shared codes others };
      join_answers = join_answers;
      join_leaves = join_leaves;
    }
