use Prim.Native.Nat.{ℕ}
use mathlib.Core.Path.{◌≡◌}
use mathlib.Core.List.{List}
use lib.ListN.{length}
use Rattle.sheet_writer.specs.Steps.{with_codes, GivesCodes}
use Rattle.sheet_writer.proofs.put_codes.Given as goal

-- The first k codes are written, whatever they are, and nothing else has changed.
abbrev pub invariant-loop-k : goal.invariant-loop-k
invariant-loop-k g l =
    (length l.sheet ≡ length l.fn.sheet) × ((codes : List ℕ) → GivesCodes (goal.C-post g l.code) l.n codes → l.sheet ≡ with_codes l.width codes l.k l.fn.sheet)
