use Rattle.std.proofs.Common.{rules, get_or}
use mathlib.Core.Path.{◌≡◌, refl, sym, ap, ◌∙◌}
use mathlib.Core.Bool.{not}
use native.Mathlib.Omega.{arith}
use Rattle.lists.proofs.Bounded.{count_none, count_most}
use Rattle.lists.proofs.Filled.{filled_none, filled_next}
use Rattle.runs.proofs.LineZero.{always_exact, own_exact}
use Rattle.plain_run.specs.Angles.{no_tangent, exact_by}
use Rattle.plain_run.proofs.CountedSteps.{flag_counted}
use Rattle.plain_run.proofs.angles.angles_of.Goals as goal

pub loop-k-init : goal.loop-k-init
loop-k-init c = (omega arith, omega arith, filled_none _ refl, sym (count_none _ _ (λ i h. ap not (sym (always_exact _ i _ (omega arith))))))

pub loop-k-preserved : goal.loop-k-preserved
loop-k-preserved c =
    let i = c.loop-k.invariant in
    let exact : c.if-tangent.exact ≡ exact_by (get_or c.args.tangents c.loop-k.k no_tangent) = search rules in (
      omega arith,
      omega arith,
      filled_next _ _ _ i.2 (omega arith) (rw c.cosine_of-cosine.ensures),
      flag_counted _ _ i.3 (ap not (exact ∙ own_exact _ _ _ i.1)),
    )

pub overflow_add-rounded : goal.overflow_add-rounded
overflow_add-rounded c = omega (arith, count_most _ _ (loop-k-preserved c).3)
