-- Demand 3, each part by the law that proves it. Assumes nothing.
use Prim.Native.Nat.{ℕ, zero, suc, ◌*◌, ◌≤◌}
use mathlib.Core.Path.{◌≡◌, refl, sym, ap, ◌∙◌}
use mathlib.Core.Bool.{true, not}
use mathlib.Core.List.{List}
use borrow.Author.Tests.{eq-eqb}
use lib.Dec.{eqb}
use lib.ListN.{length, get_or}
use lib.Ieee.{Float, nan}
use Rattle.refusal.specs.Answers.{Answered, given, refused, answered, giving}
use Rattle.refusal.proofs.FirstRefusal.{refused_given}
use Rattle.lists.proofs.Bounded.{count_none}
use Rattle.systolic.proofs.Clock.{receiving}
use Rattle.ordering.proofs.Meetings as ordering
use Rattle.sizes.specs.Sizes.{is_order, ticks_of}
use Rattle.matrix.proofs.AcceptedEntries.{accepted_long, accepted_if}
use Rattle.matrix.proofs.SameEntries.{flat_same}
use Rattle.runs.specs.State.{start_of}
use Rattle.runs.specs.Outcome.{Outcome, Report, outcome}
use Rattle.runs.proofs.Verdicts.{Begins, begun}
use Rattle.plain_run.specs.Run.{run_of}
use Rattle.plain_run.specs.Quiet.{report_of, answered_run_of}
use Rattle.plain_run.proofs.SweepsMade.{answered_given}
use Rattle.plain_run.proofs.RunResults.{last_matrices, accepted_run, run_accepted}
use Rattle.array.specs.declared.Started.{Started}
use Rattle.array.specs.declared.Ticked.{Ticked}
use Rattle.array.specs.Runs.{start_answer}
use Rattle.array_run.specs.Results.{WholeReport, reporting}
use Rattle.array_agreement.specs.Hand.{ClaimedByHand, AcceptedByHand, first_made}
use Rattle.array_agreement.proofs.QuietRuns as quiet-runs
use Rattle.array_agreement.proofs.Hand as hand
use Rattle.array_agreement.proofs.Neighbours as neighbours
use Rattle.claims.specs.Histories.{answer_timed, bit_of, differing, differing_in, CovarianceMatrix, NoBitDiffers, NoBitDiffersByHand}
use Rattle.claims.specs.Histories.{WholeRunIsThePlainRun, TicksReported, AcceptedStart, RefusedStart, EveryRunByHand, OneHistory}

whole_run : WholeRunIsThePlainRun
unfolding answered_run_of
whole_run n sweeps l r v fit =
    quiet-runs.whole_agrees n sweeps l r v fit
    ∙ ap (λ (a : Answered WholeReport). outcome a (run_of n sweeps l r v).result (run_of n sweeps l r v).vectors)
    (go (report_of n sweeps (start_of n l)) (run_of n sweeps l r v).answer)
  where
    go : (t : Report) (a : Answered Unit) → giving (reporting t (ticks_of n t.sweeps)) a ≡ answer_timed n (giving t a)
    go t (given x) = refl
    go t (refused k values) = refl

ticks : TicksReported
ticks n sweeps l r v fit reported e =
    let w = (quiet-runs.whole_given n sweeps l r v fit reported e).1 in
    ap (λ (d : WholeReport). d.ticks) w ∙ sym (ap (λ (d : WholeReport). ticks_of n d.report.sweeps) w)

-- ---- equal lists differ in no bit
itself : (x : Float) → differing x x ≡ 0
itself x = count_none (λ k. not (eqb (bit_of k x) (bit_of k x))) 64 (λ i h. ap not (eq-eqb (bit_of i x) (bit_of i x) refl))

none_differ : (k : ℕ) (l : List Float) → differing_in k l l ≡ 0
unfolding differing_in
none_differ zero l = refl
none_differ (suc k) l = rw (none_differ k l, itself (get_or l k nan))

same_bits : (k : ℕ) {l m : List Float} → l ≡ m → differing_in k l m ≡ 0
same_bits k {l} {m} e = rw e (none_differ k m)

begins : (n sweeps : ℕ) (l : List Float) (lr lv : ℕ) → is_order n ≡ true → sweeps ≤ 16 → CovarianceMatrix n l → lr ≡ n * n → lv ≡ n * n
    → Begins n sweeps l lr lv
begins n sweeps l lr lv order few matrix hr hv =
    record { order = order; few = few; result_long = hr; vectors_long = hv; entries = accepted_if n l matrix.long matrix.all_finite matrix.mirrored }

no_bit_differs : NoBitDiffers
unfolding answered_run_of
no_bit_differs n sweeps l r v r' v' order few matrix hr hv hr' hv' stays =
    let plain = run_accepted n sweeps l r v (begins n sweeps l _ _ order few matrix hr hv) stays in
    let again = run_accepted n sweeps l r' v' (begins n sweeps l _ _ order few matrix hr' hv') stays in
    let whole = quiet-runs.whole_agrees n sweeps l r' v' matrix.of_binary64 in
    let a = last_matrices n sweeps l r v plain in
    let b = last_matrices n sweeps l r' v' again in (
      same_bits (n * n) (ap (λ (o : Outcome WholeReport). o.result) whole ∙ b.0 ∙ sym a.0),
      same_bits (n * n) (ap (λ (o : Outcome WholeReport). o.vectors) whole ∙ b.1 ∙ sym a.1),
      (
        ap (λ (o : Outcome WholeReport). o.answer) whole ∙ ap (giving (quiet-runs.whole_report n sweeps l)) again,
        ap (giving (report_of n sweeps (start_of n l))) plain,
      ),
    )

-- ---- by hand
accepted : {n sweeps : ℕ} {l : List Float} {s : Started} {rs : List Ticked} → AcceptedByHand n sweeps l s rs → AcceptedStart n sweeps l s rs
unfolding first_made
accepted a =
    record {
      made_then_stopped = a.made_then_stopped;
      all_made = λ h.
          let e = a.ends h in
          record {
            matrix_agrees = λ z. (e.finite_agrees z).matrix_agrees;
            vectors_agree = λ z. (e.finite_agrees z).vectors_agree;
            none_marked = λ z. (e.finite_agrees z).none_marked;
            some_marked_lem = e.spoiled_marked;
          };
    }

by_hand : EveryRunByHand
by_hand n sweeps l fit s rs h = go (start_answer n sweeps l) h.starts.answers (hand.by_hand n sweeps l fit s rs h)
  where
    go : (a : Answered Unit) → answered s.answer ≡ a → ClaimedByHand a n sweeps l s rs
        → (answered s.answer ≡ given tt → AcceptedStart n sweeps l s rs)
        × ((k : ℕ) (values : List ℕ) → answered s.answer ≡ refused k values → RefusedStart s rs)
    go (given x) e c = (λ z. accepted c, λ k values z. refused_given (sym z ∙ e))
    go (refused k values) e c =
        (λ z. refused_given (sym e ∙ z), λ k' values' z. record { each_refused_by_1 = c.all_refused; zeros_back = c.zeros_back })

-- what a plain run accepts, a start accepts
pub starts_run : (n sweeps : ℕ) (l : List Float) (lr lv : ℕ) → Begins n sweeps l lr lv → length l ≡ n * n → start_answer n sweeps l ≡ given tt
starts_run n sweeps l lr lv b long =
    begun n sweeps l _ _ (record { order = b.order; few = b.few; result_long = long; vectors_long = long; entries = b.entries })

no_bit_differs_by_hand : NoBitDiffersByHand
unfolding answered_run_of
no_bit_differs_by_hand n sweeps l r v s rs reported fit h all answers =
    let plain = (answered_given n sweeps l r v reported answers).0 in
    let w = accepted_run n sweeps l r v plain in
    let long = accepted_long n l fit w.0.entries in
    let begun = starts_run n sweeps l _ _ w.0 long in
    let done = ((by_hand n sweeps l fit s rs h).0 (h.starts.answers ∙ begun)).all_made all in
    let a = last_matrices n sweeps l r v plain in (
      same_bits (n * n) (flat_same n _ _ (done.matrix_agrees w.1) ∙ sym a.0),
      same_bits (n * n) (flat_same n _ _ (done.vectors_agree w.1) ∙ sym a.1),
    )

pub one_history : OneHistory
one_history =
    record {
      whole_run_is_the_plain_run = whole_run;
      ticks_reported = ticks;
      no_bit_differs = no_bit_differs;
      every_run_by_hand = by_hand;
      no_bit_differs_by_hand = no_bit_differs_by_hand;
      neighbourhood = λ x y e f g r s p q i j. neighbours.array_neighbourhood x y e f g i j (λ z. (receiving _ _ i j z).off_diagonal) p q;
      meet_once = ordering.meet_once;
    }
