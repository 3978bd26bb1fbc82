use mathlib.Core.Path.{sym, ap, ◌∙◌}
use native.Mathlib.Omega.{arith}
use Rattle.std.proofs.lemmas.Grind.{common_steps}
use Rattle.runs.proofs.Verdicts.{begins}
use Rattle.array.specs.declared.Array.{Array}
use Rattle.array_run.specs.Results.{handed_over}
use Rattle.array_run.proofs.WholeRuns.{whole_refused, whole_accepted, starts_at, final_order, final_from}
use Rattle.array_run.proofs.run.Goals as goal

pub start-run-requires : goal.start-run-requires
start-run-requires c = let b = begins _ _ c.args.matrix.now _ _ (sym c.in_ok-verdict.ensures) in (b.order, b.few)

pub to_the_end-requires : goal.to_the_end-requires
to_the_end-requires c = starts_at _ _ _ c.start-run.ensures

pub hand_over-requires : goal.hand_over-requires
hand_over-requires c =
    let b = begins _ _ c.args.matrix.now _ _ (sym c.in_ok-verdict.ensures) in
    let ended = final_from _ _ _ c.start-run.ensures c.to_the_end.ensures in
    let e = ap (λ (x : Array). x.n) ended ∙ final_order _ _ _ in
    (rw e b.result_long, rw e b.vectors_long)

pub returns-in_err-verdict : goal.returns-in_err-verdict
returns-in_err-verdict c = let told = whole_refused _ _ _ _ _ c.in_err-verdict.ensures in grind (arith, common_steps, told)

pub returns : goal.returns
returns c =
    whole_accepted _ _ _ _ _ c.in_ok-verdict.ensures
    (c.hand_over.ensures ∙ ap handed_over (final_from _ _ _ c.start-run.ensures c.to_the_end.ensures))
