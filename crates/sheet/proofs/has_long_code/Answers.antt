use mathlib.Core.Path.{◌∙◌}
use lib.Dec.{ltb}
use Rattle.std.proofs.lemmas.Iterator.{YieldsList-from_slice}
use Rattle.std.proofs.lemmas.Iterator.Search.{any_from_yields_List}
use Rattle.std.proofs.Common.{rules}
use Rattle.sheet.specs.Codes.{long_codes}
use Rattle.sheet.proofs.ListTests.{any_listed}
use Rattle.sheet.proofs.has_long_code.Goals as goal

pub returns : goal.returns
unfolding long_codes
returns c =
    any_from_yields_List (ltb 255) _ _ _ c.any.ensures.ran (YieldsList-from_slice c.args.codes.now cc) (λ x b q k. search rules) ∙ any_listed 0 _ _
