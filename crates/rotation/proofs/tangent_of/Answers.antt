use Rattle.rotation.specs.Rotation.{tangent_of}
use Rattle.rotation.proofs.tangent_of.Goals as goal

pub returns : goal.returns
unfolding tangent_of
returns c =
    rw (c.root_or_nan-root.ensures, c.sign.ensures, c.magnitude.ensures)
