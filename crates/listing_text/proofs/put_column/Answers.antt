use Rattle.std.proofs.Common.{◌≡◌, ◌+◌, ◌-◌, arith, ◌∙◌}
use Rattle.matrix.specs.Matrix.{at}
use Rattle.text.proofs.TextPieces.{puts_none}
use Rattle.text.specs.Pages.{Puts}
use Rattle.listing_text.specs.Printed.{column_of}
use Rattle.listing_text.proofs.Pieces.{entry_is, column_next}
use Rattle.listing_text.proofs.put_column.Goals as goal
use Rattle.listing_text.proofs.put_column.Goals.{After-put_field}

-- one row more
next : (c : After-put_field) → Puts c.args.page.now (column_of (at c.args.n c.args.vectors.now) c.args.c c.loop-r.r) c.put_field.new.page
next c =
    let p = c.requires in
    let e = c.entry.ensures ∙ entry_is c.args.n c.loop-r.r c.args.c c.args.vectors.now (omega arith) (omega arith) p.0 p.1 p.2 in
    column_next _ c.args.c c.loop-r.r (omega arith) c.loop-r.invariant.put (rw e at c.put_field.ensures.put)

pub loop-r-init : goal.loop-r-init
unfolding column_of
loop-r-init c = record { put = puts_none _; value = omega arith }

pub loop-r-preserved : goal.loop-r-preserved
loop-r-preserved c =
    let e : c.loop-r.r + 1 - 1 ≡ c.loop-r.r = omega arith in
    record { put = rw e (next (goal.at.loop-r-preserved c).After-put_field); value = omega arith }

pub returns-2-clause-put : goal.returns-2-clause-put
returns-2-clause-put c =
    let e : c.loop-r.r ≡ c.args.n = omega arith in
    rw e at (next (goal.at.returns-2-clause-put c).After-put_field)
