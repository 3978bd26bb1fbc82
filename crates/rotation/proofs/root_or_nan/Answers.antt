use Rattle.rotation.proofs.RootsFound.{rooted_answer}
use Rattle.rotation.proofs.root_or_nan.Goals as goal

pub returns : goal.returns
returns c = rw (c.unwrap_or.ensures, c.not_a_number.ensures) (rooted_answer _ _ c.sqrt.ensures)
