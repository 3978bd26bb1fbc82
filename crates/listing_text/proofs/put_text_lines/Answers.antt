use Rattle.std.proofs.Common.{arith}
use Rattle.text.proofs.TextPieces.{puts_none}
use Rattle.listing_text.specs.Printed.{text_lines_of}
use Rattle.listing_text.proofs.Pieces.{text_lines_next}
use Rattle.listing_text.proofs.Room.{text_line_more}
use Rattle.listing_text.proofs.put_text_lines.Goals as goal

pub loop-k-init : goal.loop-k-init
unfolding text_lines_of
loop-k-init c = record { put = puts_none _; upper_bound = omega arith }

pub loop-k-preserved : goal.loop-k-preserved
loop-k-preserved c =
    record {
      put = text_lines_next _ _ _ _ c.loop-k.k c.loop-k.invariant.put c.put_text_line.ensures.put;
      upper_bound = omega (arith, text_line_more c.loop-k.k c.args.n);
    }
