use Rattle.std.proofs.Common.{◌≡◌, ◌∙◌, refl, sym, true}
use lib.Ieee.{Float, nan, inf, fin, is_nan}
use Rattle.capi.proofs.answers.canonical.Goals as goal

the_nan : (x : Float) → is_nan x ≡ true → x ≡ nan
unfolding is_nan
the_nan nan e = refl
the_nan (inf s) e = cc
the_nan (fin s m k) e = cc

pub returns-then-is_nan : goal.returns-then-is_nan
returns-then-is_nan c = c.not_a_number.ensures ∙ sym (the_nan _ (sym c.is_nan.ensures.value ∙ c.if-is_nan.true))
