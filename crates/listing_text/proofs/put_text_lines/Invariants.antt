-- The text lines of the codes so far are put, within the room of as many.
use Rattle.std.proofs.Common.{◌+◌, ◌*◌, ◌≤◌}
use Rattle.matrix.specs.Matrix.{at}
use Rattle.text.specs.Pages.{Puts}
use Rattle.listing_text.specs.Printed.{text_lines_of, text_line_room}
use Rattle.listing_text.proofs.put_text_lines.Given as goal

abbrev pub invariant-loop-k : goal.invariant-loop-k
invariant-loop-k l = record {
  put : Puts l.initial.page (text_lines_of l.n l.codes (at l.n l.matrix) (at l.n l.vectors) l.k) l.page;
  upper_bound : l.page.end ≤ l.initial.page.end + l.k * text_line_room l.n;
}
