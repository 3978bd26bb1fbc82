use Rattle.std.proofs.Common.{rules, refl}
use Rattle.test_io.proofs.WrittenTexts.{word_put}
use Rattle.test_io.proofs.spell.Goals as goal

pub returns : goal.returns
returns c = let e = word_put _ c.put_hex.ensures.put refl refl in search (rules, e)
