use Rattle.array.proofs.AngleTable.{known_next}
use Rattle.array.proofs.angles.Angles.of.Goals as goal

pub invariant_of-self : goal.invariant_of-self
invariant_of-self c = record { are_known = known_next _ _ c.args.self.now.are_known c.recalled-angle.ensures }
