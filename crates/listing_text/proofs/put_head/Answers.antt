use Rattle.text.proofs.TextPieces.{puts_then}
use Rattle.listing_text.specs.Printed.{head_of}
use Rattle.listing_text.proofs.put_head.Goals as goal

pub returns-clause-put : goal.returns-clause-put
unfolding head_of
returns-clause-put c =
    puts_then c.put_decimal.ensures (puts_then c.put.ensures (puts_then c.put_decimal-2.ensures (puts_then c.put-2.ensures
    (puts_then c.put_decimal-3.ensures c.put-3.ensures))))
