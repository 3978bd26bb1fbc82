-- Exact and rounded roots, each part by the law that proves it. Assumes nothing.
use Prim.Native.Nat.{ℕ, ◌+◌, ◌*◌}
use mathlib.Core.Path.{◌≡◌, refl, sym, ap, subst, ◌∙◌}
use mathlib.Core.Bool.{Bool, true, not, true≢false}
use mathlib.Core.List.{List}
use native.Mathlib.Omega.{arith}
use lib.ListN.{length}
use lib.Ieee.{Float}
use Rattle.refusal.specs.Answers.{Answered, given, value_or, answered}
use Rattle.lists.proofs.Bounded.{count_ext}
use Rattle.lists.proofs.Sums.{total_below}
use Rattle.root.specs.Exact.{exact_root, flagged}
use Rattle.root.proofs.CorrectRounding.{RootOf}
use Rattle.root.proofs.ExactRoots.{exact_flag, no_inexact}
use Rattle.root.proofs.AnsweredRoots.{root_above}
use Rattle.rotation.specs.Rotation.{quotient, tangent_of}
use Rattle.rotation.proofs.ExactPairs as pairs
use Rattle.ordering.specs.declared.PairList.{PairList}
use Rattle.ordering.specs.Pairs.{Lists}
use Rattle.sizes.specs.Sizes.{is_order, processors_of, steps_of}
use Rattle.sizes.proofs.Orders.{steps_few}
use Rattle.matrix.proofs.AcceptedEntries.{accepted_long}
use Rattle.runs.specs.State.{State, start_of}
use Rattle.runs.specs.Outcome.{Report}
use Rattle.runs.proofs.Verdicts.{Begins, begins}
use Rattle.plain_run.specs.Met.{rounded_in, rounded_of, rounded_by}
use Rattle.plain_run.specs.Quiet.{answered_run_of}
use Rattle.plain_run.proofs.RunResults.{accepted_run}
use Rattle.plain_run.proofs.SweepsMade.{answered_given, report_sweeps, report_rounded}
use Rattle.plain_run.proofs.RoundedPairs.{rounded_sum, rounded_made}
use Rattle.tile.specs.Tiles.{the_tile}
use Rattle.array.specs.declared.Array.{Array}
use Rattle.array.specs.declared.Started.{Started}
use Rattle.array.specs.declared.Ticked.{Ticked}
use Rattle.array.specs.Arrays.{tile_at, the_array}
use Rattle.array.specs.Runs.{start_array, ticked}
use Rattle.array.proofs.MadeTicks.{is_given_lem, started_array}
use Rattle.array_run.specs.Results.{rounded_pairs}
use Rattle.array_agreement.specs.Hand.{last_array, ByHand}
use Rattle.array_agreement.proofs.Hand.{last_is}
use Rattle.array_agreement.proofs.CountedRuns.{rounded_after_lem, rounded_ended, counts_few}
use Rattle.claims.specs.Histories.{Binary64}
use Rattle.claims.specs.ExactRoots.{Judged, RootsJudged, PairsJudged, rounded_for, rounded_met, RoundedReported, TilesCountRounded}
use Rattle.claims.specs.ExactRoots.{CountedByHand, NeverNear, ExactRootsAsStated}
use Rattle.claims.proofs.MetPairs.{exact_at_its_turn_lem}
use Rattle.claims.proofs.QuietRuns.{pairs_counted}

-- ---- the square root
judged : (x r : Float) (exact : Bool) → RootOf x r → exact_root x ≡ exact → Judged x r exact
judged x r exact w g =
    record {
      exact_means = λ z. (exact_flag x r w).0 (g ∙ z);
      square_exact = λ z. sym g ∙ (exact_flag x r w).1 z;
      not_inexact = λ a b q p z. (no_inexact x r w a b q p).0 (g ∙ z);
      same_exact = λ a b q p z. sym g ∙ (no_inexact x r w a b q p).1 z;
    }

roots : RootsJudged
roots x r exact f t h e =
    let w = root_above x f t h in
    let same = ap (λ (a : Answered (Float × Bool)). value_or a (r, exact)) (sym (ap (flagged (exact_root x)) w.1.is) ∙ e) in
    judged x r exact (subst (RootOf x) (ap (λ (p : Float × Bool). p.0) same) w.1) (ap (λ (p : Float × Bool). p.1) same)

-- ---- the parameters of a pair
pairs_judged : PairsJudged
unfolding quotient tangent_of
pairs_judged =
    record {
      found = λ a d b. refl;
      b_zero = pairs.zero_pair;
      t_not_a_number = pairs.nan_pair;
      both_roots = pairs.other_pair;
      still_is_exact = pairs.still_exact;
      rounded_turns = λ a d b h e. true≢false (sym (pairs.still_exact a d b e) ∙ h);
    }

-- ---- the pairs that a run meets
module _ (n : ℕ) (order : is_order n ≡ true) (list : ℕ → PairList) (lists : (step : ℕ) → Lists n step (list step)) (X : State) where
  rounded_for_lem : (K i : ℕ) → rounded_for n list K X (i + 1) ≡ rounded_of n K i X
  unfolding rounded_of rounded_in
  rounded_for_lem K i = count_ext _ _ K (λ step. ap not (exact_at_its_turn_lem n order list lists X step i))

  rounded_met_lem : (K : ℕ) → rounded_met n list K X ≡ rounded_by n K X
  rounded_met_lem K = total_below _ _ (processors_of n) (λ i h. rounded_for_lem K i) ∙ rounded_sum n K X

rounded_is : (n sweeps : ℕ) (l r v : List Float) (reported : Report) → (answered_run_of n sweeps l r v).answer ≡ given reported
    → (is_order n ≡ true) × (reported.rounded ≡ rounded_by n (steps_of n reported.sweeps) (start_of n l))
    × (reported.rounded ≡ rounded_by n (steps_of n sweeps) (start_of n l))
rounded_is n sweeps l r v reported e =
    let X = start_of n l in
    let w = answered_given n sweeps l r v reported e in
    let order = (accepted_run n sweeps l r v w.0).0.order in
    let rounded = ap (λ (t : Report). t.rounded) w.1 ∙ report_rounded n sweeps X in
    let made = ap (λ (t : Report). t.sweeps) w.1 ∙ report_sweeps n sweeps X in
    (order, rounded ∙ ap (λ (m : ℕ). rounded_by n (steps_of n m) X) (sym made), rounded ∙ rounded_made n order sweeps X)

reported_rounded : RoundedReported
reported_rounded n sweeps l r v list lists reported e =
    let w = rounded_is n sweeps l r v reported e in
    let met = rounded_met_lem n w.0 list lists (start_of n l) in
    (w.1 ∙ sym (met (steps_of n reported.sweeps)), w.2 ∙ sym (met (steps_of n sweeps)))

-- ---- by hand
module _ (n sweeps : ℕ) (l : List Float) (fit : Binary64 l) (t : Started) (rs : List Ticked) (h : ByHand n sweeps l t rs)
    (e : answered t.answer ≡ given tt) where
  begun : Begins n sweeps l (length l) (length l)
  begun = begins n sweeps l _ _ (is_given_lem n sweeps l t h.starts e)

  long : length l ≡ n * n
  long = accepted_long n l fit begun.entries

  last_ticked : last_array t rs ≡ ticked (length rs) (start_array n sweeps l)
  last_ticked = last_is t rs h.ticks ∙ ap (ticked (length rs)) (started_array n sweeps l t h.starts e)

tiles_rounded : TilesCountRounded
unfolding the_array the_tile
tiles_rounded n sweeps l fit list lists t rs h e z i hi within made no_more =
    let b = begun n sweeps l fit t rs h e in
    ap (λ (x : Array). (tile_at x.tiles i i).counts.rounded) (last_ticked n sweeps l fit t rs h e)
    ∙ rounded_after_lem n sweeps l b.order b.few (long n sweeps l fit t rs h e) z i (length rs) hi (within, made, no_more)
    ∙ sym (rounded_for_lem n b.order list lists (start_of n l) z i)

counted : CountedByHand
counted n sweeps l fit list lists t rs h e all =
    let b = begun n sweeps l fit t rs h e in
    let summed =
    sym (pairs_counted (processors_of n) (last_array t rs))
    ∙ ap (λ (x : Array). rounded_pairs (processors_of n) x.tiles) (last_ticked n sweeps l fit t rs h e)
    ∙ rounded_ended n sweeps l b.order b.few (long n sweeps l fit t rs h e) (length rs) all in (
      summed ∙ sym (rounded_met_lem n b.order list lists (start_of n l) (steps_of n sweeps)),
      λ r v reported z. summed ∙ sym (rounded_is n sweeps l r v reported z).2,
    )

never_near : NeverNear
unfolding the_array the_tile
never_near n sweeps l fit t rs h e i hi =
    let b = begun n sweeps l fit t rs h e in
    let last = ap (λ (x : Array). (tile_at x.tiles i i).counts) (last_ticked n sweeps l fit t rs h e) in
    let few = counts_few n sweeps l b.order b.few (long n sweeps l fit t rs h e) (length rs) i hi in
    let most = steps_few n sweeps b.order b.few in
    rw last (omega (arith, few.0, most), omega (arith, few.1, most))

pub exact_roots_as_stated : ExactRootsAsStated
exact_roots_as_stated =
    record {
      roots_judged = roots;
      pairs_judged = pairs_judged;
      rounded_reported = reported_rounded;
      tiles_count_rounded = tiles_rounded;
      counted_by_hand = counted;
      never_near = never_near;
    }
