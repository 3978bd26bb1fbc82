use Rattle.plain_pair.proofs.TurnedStates.{pair_set}
use Rattle.plain_pair.proofs.Lines.set.Goals as goal

pub returns : goal.returns
returns c = pair_set _ _ _ _ _ _ _ _ _ c.set_entry.ensures c.set_entry-2.ensures c.clear.ensures
