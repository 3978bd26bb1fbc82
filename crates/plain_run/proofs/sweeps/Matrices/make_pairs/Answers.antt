use mathlib.Core.Path.{refl, sym, ap, ◌∙◌}
use native.Mathlib.Omega.{arith}
use Rattle.lists.proofs.Bounded.{count_none, count_most}
use Rattle.matrix_turns.proofs.LinePairs.{two_as}
use Rattle.runs.specs.Counts.{is_turn}
use Rattle.runs.proofs.LineZero.{always_still, not_still}
use Rattle.plain_pair.proofs.AlikeStates.{held_long}
use Rattle.plain_pair.proofs.PairLines.{pair_held}
use Rattle.plain_run.proofs.HeldMatrices.{held_first}
use Rattle.plain_run.proofs.HeldStates.{no_pairs, pair_next}
use Rattle.plain_run.proofs.CountedSteps.{flag_counted}
use Rattle.plain_run.proofs.ProcessorPairs.{are_real}
use Rattle.plain_run.proofs.sweeps.Matrices.make_pairs.Goals as goal

pub loop-k-init : goal.loop-k-init
loop-k-init c =
    let paired = c.requires.paired in
    let still = c.still_of-k.ensures in (
      omega arith,
      omega arith,
      held_first c.args.self.now _ (λ h. no_pairs _ _ _ _ h _ _ _ paired still (omega arith)),
      sym (count_none _ _ (λ i h. ap is_turn (sym (always_still _ i _ (omega arith))))),
    )

pub overflow_add-turns : goal.overflow_add-turns
overflow_add-turns c =
    let i = c.loop-k.invariant in
    omega (arith, count_most _ _ (flag_counted _ _ i.3 (c.is_turn.ensures ∙ ap is_turn (c.of_angle-parameters.ensures ∙ not_still _ _ _ i.0))))

pub loop-k-preserved : goal.loop-k-preserved
loop-k-preserved c =
    let of-angle = c.of_angle-parameters.ensures in
    let k = c.loop-k.k in
    let i = c.loop-k.invariant in
    let h = held_long _ _ _ _ i.2.held in
    let two = are_real _ _ _ _ (c.requires.paired k (omega arith)) i.0 in
    let held = pair_held _ _ _ _ _ _ (two_as _ _ _ two h.0) h.1 (rw i.2.same.order at c.turn.ensures) in
    let found = of-angle ∙ c.requires.by_index k i.0 (omega arith) in (
      omega arith,
      omega arith,
      record {
        same = record { order = i.2.same.order; matrix = i.2.same.matrix; vectors = i.2.same.vectors };
        held = pair_next _ _ _ _ _ _ i.2.held _ _ _ _ _ i.0 two refl found held;
      },
      flag_counted _ _ i.3 (c.is_turn.ensures ∙ ap is_turn (of-angle ∙ not_still _ _ _ i.0)),
    )
