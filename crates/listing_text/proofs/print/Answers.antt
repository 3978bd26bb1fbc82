use Rattle.std.proofs.Common.{rules, refl, sym, ◌∙◌}
use Rattle.listing_text.proofs.Pieces.{printed}
use Rattle.listing_text.proofs.print.Goals as goal

pub returns : goal.returns
returns c =
    let passed = sym c.is_printable.ensures ∙ c.if-not-is_printable.false in
    let e = printed _ _ _ _ _ _ passed refl c.put_head.ensures.put c.put_text_lines.ensures in
    search (rules, e)
