use native.Mathlib.Omega.{arith}
use Rattle.std.proofs.lemmas.Grind.{common_steps}
use Rattle.plain_run.proofs.Outcomes.{run_refused, run_made}
use Rattle.plain_run.proofs.run.Goals as goal

pub returns-in_err-verdict : goal.returns-in_err-verdict
returns-in_err-verdict c =
    let told = run_refused _ _ _ _ _ c.in_err-verdict.ensures in
    grind (arith, common_steps, told)

pub returns-in_err-finish : goal.returns-in_err-finish
returns-in_err-finish c =
    let made = c.make_sweeps-report.ensures in
    let told =
    run_made _ _ _ _ _ c.type_inv.matrix c.in_ok-verdict.ensures _ _ _ _ _ _ c.copy.ensures
    c.set_identity.ensures made.told made.held.held (rw made.held.same.order at c.in_err-finish.ensures.left) in
    grind (arith, common_steps, told)

pub returns : goal.returns
returns c =
    let made = c.make_sweeps-report.ensures in
    let told =
    run_made _ _ _ _ _ c.type_inv.matrix c.in_ok-verdict.ensures _ _ _ _ _ _ c.copy.ensures
    c.set_identity.ensures made.told made.held.held (rw made.held.same.order at c.in_ok-finish.ensures.left) in
    grind (arith, common_steps, told)
