use Rattle.text.specs.Text.{decimal_of}
use Rattle.text.proofs.TextPieces.{puts_then}
use Rattle.text.proofs.Page.put_decimal.Goals as goal

pub returns : goal.returns
unfolding decimal_of
returns c =
    let last = rw c.code.ensures at c.put.ensures in
    puts_then c.put_shown.ensures (puts_then c.put_shown-2.ensures (puts_then c.put_shown-3.ensures (puts_then c.put_shown-4.ensures last)))
