-- The rows above row r of the column are put, 17 bytes a row.
use Rattle.std.proofs.Common.{◌≡◌, ◌+◌, ◌-◌, ◌*◌}
use Rattle.matrix.specs.Matrix.{at}
use Rattle.text.specs.Pages.{Puts}
use Rattle.listing_text.specs.Printed.{column_of}
use Rattle.listing_text.proofs.put_column.Given as goal

abbrev pub invariant-loop-r : goal.invariant-loop-r
invariant-loop-r l = record {
  put : Puts l.initial.page (column_of (at l.n l.vectors) l.c (l.r - 1)) l.page;
  value : l.page.end ≡ l.initial.page.end + 17 * (l.r - 1);
}
