use mathlib.Core.Path.{sym, ap, ◌∙◌}
use mathlib.Core.Bool.{Bool, ◌&&◌}
use Rattle.rotation.specs.Rotation.{quotient}
use Rattle.rotation.proofs.RootsFound.{zero_pair_found, still_found, turn_flagged}
use Rattle.rotation.proofs.of_pair.Goals as goal

-- b is zero
pub returns-then-b : goal.returns-then-b
returns-then-b c = zero_pair_found _ _ _ c.if-b.true

-- t is zero
pub returns-then-tangent : goal.returns-then-tangent
unfolding quotient
returns-then-tangent c =
    let given = c.args in
    still_found given.a given.d given.b c.if-b.false _ c.tangent_of-tangent.ensures c.if-tangent.true

-- t turns, and its root is exact or not
pub returns-then-tangent-2 : goal.returns-then-tangent-2
unfolding quotient
returns-then-tangent-2 c =
    let given = c.args in
    turn_flagged given.a given.d given.b c.if-b.false _ c.tangent_of-tangent.ensures _ c.if-tangent.false c.cosine_of-cosine.ensures _
    (ap (λ (x : Bool). x && c.cosine_of-cosine.result.exact) (sym c.if-tangent-2.true))

pub returns-else-tangent-2 : goal.returns-else-tangent-2
unfolding quotient
returns-else-tangent-2 c =
    let given = c.args in
    turn_flagged given.a given.d given.b c.if-b.false _ c.tangent_of-tangent.ensures _ c.if-tangent.false c.cosine_of-cosine.ensures _
    (c.if-tangent-2.false ∙ ap (λ (x : Bool). x && c.cosine_of-cosine.result.exact) (sym c.if-tangent-2.false))
