use Rattle.std.proofs.Common.{◌≤◌, length, rules}
use Rattle.listing_text.specs.Printed.{room_for}
use Rattle.listing.proofs.ListingParts.{Content, was_read, within_limit, no_room, run_printed, run_refused, sheet_refused, sheet_listed}
use Rattle.listing.proofs.list_in.Goals as goal
use Rattle.listing.proofs.list_in.Goals.{In_ok-n, Else-text-room_for}

content : (c : In_ok-n) → let a = c.args in
    Content a.sheet.now (length a.codes.now) (length a.matrix.now) c.in_ok-n.field-0.n c.in_ok-n.field-0.sweeps c.read.new.codes c.read.new.matrix
content c = was_read _ _ _ _ _ c.in_ok-n.ensures

-- past the test
enough : (c : Else-text-room_for) → room_for c.in_ok-n.field-0.n ≤ length c.args.text.now
enough c = rw c.room_for.ensures at c.if-text-room_for.false

pub returns-in_err-n : goal.returns-in_err-n
returns-in_err-n c =
    let a = c.args in
    let e = sheet_refused _ _ _ a.res.now a.vectors.now a.text.now c.requires _ c.in_err-n.ensures in
    search (rules, e)

pub room_for-requires : goal.room_for-requires
room_for-requires c = within_limit _ _ _ _ _ (content (goal.at.room_for-requires c).In_ok-n)

pub returns-then-text-room_for : goal.returns-then-text-room_for
returns-then-text-room_for c =
    let q = content (goal.at.returns-then-text-room_for c).In_ok-n in
    sheet_listed _ _ _ _ _ _ c.requires _ _ q (no_room _ _ _ _ _ (rw c.room_for.ensures at c.if-text-room_for.true))

pub returns-in_err-report : goal.returns-in_err-report
returns-in_err-report c =
    let q = content (goal.at.returns-in_err-report c).In_ok-n in
    let room = enough (goal.at.returns-in_err-report c).Else-text-room_for in
    let e = sheet_listed _ _ _ _ _ _ c.requires _ _ q (run_refused _ _ _ _ _ room _ c.in_err-report.ensures) in
    search (rules, e)

pub returns : goal.returns
returns c =
    let q = content (goal.at.returns c).In_ok-n in
    let room = enough (goal.at.returns c).Else-text-room_for in
    sheet_listed _ _ _ _ _ _ c.requires _ _ q (run_printed _ _ _ _ _ room _ c.in_ok-report.ensures c.print.ensures)
