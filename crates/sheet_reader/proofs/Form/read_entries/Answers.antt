use mathlib.Core.Path.{◌∙◌}
use native.Mathlib.Omega.{arith}
use Rattle.sheet_reader.proofs.MirroredEntries.{stored_none, stored_next}
use Rattle.sheet_reader.proofs.SheetContents.{up_to_diagonal, mirror_read}
use Rattle.sheet_reader.proofs.Form.read_entries.Goals as goal

pub loop-i-init : goal.loop-i-init
loop-i-init c = stored_none _ _ _ c.requires

pub loop-j-preserved : goal.loop-j-preserved
loop-j-preserved c =
    stored_next _ _ _ _ _ _ (omega arith) (omega arith) c.loop-j.invariant
    (c.from_bits-x.ensures ∙ up_to_diagonal _ _ _ (omega arith) c.pattern.ensures) (c.from_bits-x.ensures ∙ mirror_read _ _ _ (omega arith) c.pattern.ensures)
