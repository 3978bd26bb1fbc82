-- Quiet sweeps and the end of a run, each part by the law that proves it. Assumes nothing.
use Prim.Native.Nat.{ℕ, suc, ◌+◌, ◌-◌, ◌*◌}
use mathlib.Core.Path.{◌≡◌, refl, sym, ap, ◌∙◌}
use mathlib.Core.Bool.{true, false}
use native.Mathlib.Omega.{arith}
use Rattle.rotation.specs.declared.Parameters.TheVariants.{Still}
use Rattle.ordering.specs.declared.PairList.{PairList}
use Rattle.ordering.specs.Pairs.{Lists}
use Rattle.sizes.specs.Sizes.{is_order, sweep_steps, steps_of}
use Rattle.runs.specs.State.{State, start_of}
use Rattle.runs.specs.Counts.{is_turn}
use Rattle.runs.specs.Outcome.{Report, report, answering}
use Rattle.plain_run.specs.State.{after}
use Rattle.plain_run.specs.Run.{run_of}
use Rattle.plain_run.specs.Met.{pair_met, turns_in, rounded_by}
use Rattle.plain_run.specs.Quiet.{quiet, sweeps_made, report_of, answered_run_of}
use Rattle.plain_run.proofs.RunResults.{accepted_run}
use Rattle.plain_run.proofs.StillPairs.{no_turn}
use Rattle.plain_run.proofs.QuietSweeps.{quiet_still, still_quiet, quiet_diagonal, settled}
use Rattle.plain_run.proofs.SweepsMade.{Ends, with_all, when_quiet, made_ends, made_is, run_same, report_sweeps, answered_given}
use Rattle.claims.specs.QuietSweeps.{at_its_turn, EveryPairStill, QuietMeans, FirstQuiet, the_first, none_is, SweepsAnswered, SameAsAllSweeps}
use Rattle.claims.specs.QuietSweeps.{QuietSettles}
use Rattle.claims.proofs.MetPairs.{at_its_turn_lem}

-- ---- a quiet sweep, in the words of the page
module _ (n : ℕ) (order : is_order n ≡ true) (list : ℕ → PairList) (lists : (step : ℕ) → Lists n step (list step)) (X : State) where
  still_then : (step i : ℕ) → at_its_turn n (list step) (i + 1) (after n step X) ≡ Still → turns_in n step i X ≡ false
  unfolding turns_in
  still_then step i e = ap is_turn (sym (at_its_turn_lem n order list lists X step i) ∙ e)

  then_still : (step i : ℕ) → turns_in n step i X ≡ false → at_its_turn n (list step) (i + 1) (after n step X) ≡ Still
  unfolding turns_in
  then_still step i e = at_its_turn_lem n order list lists X step i ∙ no_turn (pair_met n step i X).parameters e

  quiet_is : (m : ℕ) → (EveryPairStill n list m X → quiet n m X ≡ true) × (quiet n m X ≡ true → EveryPairStill n list m X)
  quiet_is m = (
    λ f. still_quiet n m X (λ s h i l. still_then ((m - 1) * sweep_steps n + s) i (f s (i + 1) h (omega arith) (omega arith))),
    λ q s k h a b.
        let e : k - 1 + 1 ≡ k = omega arith in
        rw e at (then_still ((m - 1) * sweep_steps n + s) (k - 1) (quiet_still n m X q s h (k - 1) (omega arith))),
  )

pub quiet_means : QuietMeans
quiet_means n order list lists m X = quiet_is n order list lists X m

-- ---- the sweeps made
first_quiet : (n S : ℕ) (X : State) {made : ℕ} → Ends n S X made → FirstQuiet n S X made
first_quiet n S X (with_all none e) =
    none_is (λ m a b. let s : suc (m - 1) ≡ m = omega arith in rw s at (none (m - 1) (omega arith))) e
first_quiet n S X (when_quiet j h none q e) =
    the_first (omega arith) (omega arith) (rw e q) (λ m a b. let s : suc (m - 1) ≡ m = omega arith in rw s at (none (m - 1) (omega arith)))

pub sweeps_answered : SweepsAnswered
sweeps_answered n sweeps l r v reported e =
    let X = start_of n l in
    let made : reported.sweeps ≡ sweeps_made n sweeps X =
    ap (λ (t : Report). t.sweeps) (answered_given n sweeps l r v reported e).1 ∙ report_sweeps n sweeps X in
    rw made (first_quiet n sweeps X (made_ends n X sweeps))

-- the sweeps made of a run of as many sweeps are all of them
again : (n S : ℕ) (X : State) {made : ℕ} → Ends n S X made → Ends n made X made
again n S X (with_all none e) = with_all (λ j h. none j (omega arith)) refl
again n S X (when_quiet j h none q e) = when_quiet j (omega arith) none q e

same_report : (n S T : ℕ) (X : State) → sweeps_made n S X ≡ sweeps_made n T X → report_of n S X ≡ report_of n T X
unfolding report_of
same_report n S T X e = ap (λ (k : ℕ). report k (rounded_by n (steps_of n k) X)) e

pub same_sweeps : SameAsAllSweeps
unfolding answered_run_of
same_sweeps n sweeps l r v reported e =
    let w = answered_given n sweeps l r v reported e in
    let X = start_of n l in
    let m = reported.sweeps in
    let few = (accepted_run n sweeps l r v w.0).0.few in
    let made : m ≡ sweeps_made n sweeps X = ap (λ (t : Report). t.sweeps) w.1 ∙ report_sweeps n sweeps X in
    let ends : Ends n m X m = again n sweeps X (rw made (made_ends n X sweeps)) in
    let told : report_of n m X ≡ report_of n sweeps X = same_report n m sweeps X (sym (made_is n X ends) ∙ made) in
    let same : run_of n m l r v ≡ run_of n sweeps l r v = ap (λ (k : ℕ). run_of n k l r v) made ∙ sym (run_same n sweeps l few r v) in
    ap (λ (t : Report). answering t (run_of n m l r v)) told ∙ ap (answering (report_of n sweeps X)) same

pub settles : QuietSettles
settles n m X order some q =
    let d = quiet_diagonal n order X m some q in
    record {
      off_diagonal = λ r c a b a' b' ne. d r c (a, b) (a', b') ne;
      no_later_step = λ K h. settled n order X (m * sweep_steps n) d K h;
    }
