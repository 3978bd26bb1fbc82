use mathlib.Core.Path.{sym, ap, ◌∙◌}
use Rattle.float64.specs.Values.{finite}
use Rattle.matrix.proofs.EntryTests.{is_not_finite, place_found}
use Rattle.matrix.proofs.EntryPlaces.{entry_in}
use Rattle.matrix.proofs.first_not_finite.Goals as goal

pub returns-then-not-is_finite : goal.returns-then-not-is_finite
returns-then-not-is_finite c =
    let hi = c.rows-test.true in
    let hj = c.loop-j-test.true in
    let e = ap finite (sym (c.entry.ensures ∙ entry_in _ _ _ _ c.requires hi hj)) ∙ sym c.is_finite.ensures ∙ c.if-not-is_finite.true in
    sym (place_found _ _ _ _ _ _ hi hj c.rows.invariant.1 c.loop-j.invariant.1 (is_not_finite _ _ _ _ e))
