use native.Mathlib.Omega.{arith}
use Rattle.sheet_reader.proofs.SheetContents.{codes_read}
use Rattle.sheet_reader.proofs.Form.read_codes.Goals as goal

pub returns : goal.returns
returns c = let form = c.args.self.now in codes_read form.sheet.now _ _ form.of_form c.loop-k.invariant (omega arith)
