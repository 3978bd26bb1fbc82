use mathlib.Core.Path.{sym, subst, ◌∙◌}
use lib.Dec.{T}
use Rattle.array.proofs.AngleTable.{same_angle}
use Rattle.array.proofs.angles.recalled.Goals as goal

pub returns-then-same_bits : goal.returns-then-same_bits
returns-then-same_bits c =
    let same = sym c.same_bits.ensures ∙ c.if-same_bits.true in
    same_angle _ _ (subst T (sym c.well_formed.0.1) tt) (subst T (sym c.well_formed.1.0.1.1.0.1) tt) same c.requires
