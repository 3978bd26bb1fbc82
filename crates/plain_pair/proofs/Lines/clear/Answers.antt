use Rattle.plain_pair.proofs.TurnedStates.{cleared}
use Rattle.plain_pair.proofs.Lines.clear.Goals as goal

pub returns : goal.returns
returns c = cleared _ _ _ _ _ _ c.set_entry.ensures c.set_entry-2.ensures
