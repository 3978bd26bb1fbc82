use Prim.Native.Nat.{◌+◌}
use Rattle.sheet.specs.Format.{entries_to, entry_in}
use Rattle.sheet_reader.proofs.MirroredEntries.{Stored}
use Rattle.sheet_reader.proofs.Form.read_entries.Given as goal

-- In the inner loop the first j entries of row i + 1 stand in both their places, in the outer loop those of the first i rows do.
abbrev pub invariant-loop-j : goal.invariant-loop-j
invariant-loop-j l = Stored l.n (entry_in l.self.sheet.now) (entries_to l.i + l.j) l.matrix

abbrev pub invariant-loop-i : goal.invariant-loop-i
invariant-loop-i l = Stored l.n (entry_in l.self.sheet.now) (entries_to l.i) l.matrix
