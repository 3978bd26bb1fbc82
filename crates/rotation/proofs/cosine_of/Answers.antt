use Rattle.rotation.specs.Rotation.{cosine_of}
use Rattle.rotation.proofs.RootsFound.{zero_cosine}
use Rattle.rotation.proofs.cosine_of.Goals as goal

pub returns-then-t : goal.returns-then-t
returns-then-t c = zero_cosine _ c.if-t.true

pub returns : goal.returns
unfolding cosine_of
returns c = rw c.root_or_nan-root.ensures
