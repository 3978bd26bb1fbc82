use mathlib.Core.Path.{sym, ◌∙◌}
use native.Mathlib.Omega.{arith}
use Rattle.matrix.proofs.EntryTests.{same, is_not_mirrored, place_found}
use Rattle.matrix.proofs.EntryPlaces.{entry_in}
use Rattle.matrix.proofs.first_not_mirrored.Goals as goal

pub returns-then-not-same_bits : goal.returns-then-not-same_bits
returns-then-not-same_bits c =
    let hi = c.rows-test.true in
    let hj = c.loop-j-test.true in
    let e = c.entry.ensures ∙ entry_in _ _ _ _ c.requires hi hj in
    let d = c.entry-in-loop-j.ensures ∙ entry_in _ _ _ _ c.requires hj hi in
    let f = same (sym e) (sym d) ∙ sym c.same_bits.ensures ∙ c.if-not-same_bits.true in
    sym (place_found _ _ _ _ _ _ hi hj c.rows.invariant.1 c.loop-j.invariant.1 (is_not_mirrored _ _ _ _ (omega arith) f))
