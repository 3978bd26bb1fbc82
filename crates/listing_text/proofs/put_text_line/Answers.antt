use Rattle.std.proofs.Common.{◌∙◌}
use Rattle.text.proofs.TextPieces.{puts_then}
use Rattle.listing_text.specs.Printed.{text_line_of}
use Rattle.listing_text.proofs.Pieces.{entry_is}
use Rattle.listing_text.proofs.put_text_line.Goals as goal

pub returns-clause-put : goal.returns-clause-put
unfolding text_line_of
returns-clause-put c =
    let p = c.requires in
    let e = c.entry.ensures ∙ entry_is _ _ _ _ p.0 p.1 p.0 p.1 p.2 in
    puts_then c.put_decimal.ensures (puts_then (rw e at c.put_field.ensures.put) (puts_then c.put_column.ensures.put c.put.ensures))
