use Rattle.rotation.specs.Rotation.{quotient}
use Rattle.rotation.proofs.RootsFound.{zero_found, other_found}
use Rattle.rotation.proofs.tangent_of_pair.Goals as goal

pub returns-then-b : goal.returns-then-b
returns-then-b c = zero_found _ _ _ c.if-b.true

pub returns : goal.returns
unfolding quotient
returns c =
    let given = c.args in
    other_found given.a given.d given.b _ c.if-b.false c.tangent_of.ensures
