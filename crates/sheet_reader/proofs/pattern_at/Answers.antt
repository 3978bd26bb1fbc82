use Rattle.sheet_reader.proofs.AcceptedSheets.{readable_alone}
use Rattle.sheet_reader.proofs.Tables.{readable_form}
use Rattle.sheet_reader.proofs.pattern_at.Goals as goal

pub invariant_of-form : goal.invariant_of-form
invariant_of-form c = record { of_form = readable_form _ _ _ (readable_alone _ c.requires.0) c.width_in.ensures c.order_in.ensures }
