use Rattle.text.proofs.TextPieces.{puts_then}
use Rattle.listing_text.specs.Printed.{value_field}
use Rattle.listing_text.proofs.put_field.Goals as goal

pub returns-clause-put : goal.returns-clause-put
unfolding value_field
returns-clause-put c = puts_then c.put.ensures (rw c.to_bits.ensures at c.put_hex.ensures.put)
