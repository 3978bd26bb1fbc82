use Prim.Native.Nat.{ℕ, ◌+◌, ◌*◌}
use mathlib.Core.Path.{◌≡◌}
use lib.ListN.{length}
use lib.Ieee.{Float}
use Rattle.sheet.specs.Format.{entries_from, entries_to}
use Rattle.sheet_writer.specs.Steps.{with_entries, GivesPatterns}
use Rattle.sheet_writer.proofs.put_entries.Given as goal

-- In the inner loop the first j entries of row i + 1 are written, in the outer loop those of the first i rows are, whatever they are. In both the
-- length stays, and the offset is behind the last entry.
abbrev pub invariant-loop-j : goal.invariant-loop-j
invariant-loop-j g l =
    (length l.sheet ≡ length l.fn.sheet) × (l.offset ≡ entries_from l.width l.n + 8 * (entries_to l.i + l.j))
    × ((A : ℕ → ℕ → Float) → GivesPatterns (goal.P-post g l.pattern) l.n A → l.sheet ≡ with_entries l.width l.n A (entries_to l.i + l.j) l.fn.sheet)

abbrev pub invariant-loop-i : goal.invariant-loop-i
invariant-loop-i g l =
    (length l.sheet ≡ length l.fn.sheet) × (l.offset ≡ entries_from l.width l.n + 8 * entries_to l.i)
    × ((A : ℕ → ℕ → Float) → GivesPatterns (goal.P-post g l.pattern) l.n A → l.sheet ≡ with_entries l.width l.n A (entries_to l.i) l.fn.sheet)
