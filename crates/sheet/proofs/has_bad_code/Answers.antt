use mathlib.Core.Path.{◌∙◌}
use Rattle.std.proofs.Common.{rules}
use Rattle.std.proofs.lemmas.Iterator.{YieldsList-from_slice}
use Rattle.std.proofs.lemmas.Iterator.Consumers.{YieldsList-from_enumerate}
use Rattle.std.proofs.lemmas.Iterator.Search.{any_from_yields_List}
use Rattle.sheet.proofs.BadCodes.{bad_at, bad_listed}
use Rattle.sheet.proofs.has_bad_code.Goals as goal

pub returns : goal.returns
returns c =
    let codes = c.args.codes.now in
    let numbered = YieldsList-from_enumerate (YieldsList-from_slice codes cc) cc in
    any_from_yields_List (bad_at codes) _ _ _ c.any.ensures.ran numbered (λ x b q k. search rules) ∙ bad_listed codes
