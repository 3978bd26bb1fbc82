use Rattle.lists.proofs.Filled.{Filled}
use Rattle.sheet.specs.Format.{code_in}
use Rattle.sheet_reader.proofs.Form.read_codes.Given as goal

-- The first k codes are those of the sheet.
abbrev pub invariant-loop-k : goal.invariant-loop-k
invariant-loop-k l = Filled 0 (code_in l.self.width l.self.sheet.now) l.self.n l.k l.codes
