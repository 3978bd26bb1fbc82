use Prim.Native.Nat.{◌+◌, ◌≤◌}
use mathlib.Core.Path.{◌≡◌, sym}
use native.Mathlib.Omega.{arith}
use lib.ListN.{length, get_or}
use lib.Ieee.{binary64, to_bits}
use Rattle.std.proofs.Common.{rules}
use Rattle.sizes.specs.Sizes.{largest_order}
use Rattle.sizes.proofs.Orders.{order_is}
use Rattle.sheet.specs.Codes.{width_for}
use Rattle.matrix.specs.Matrix.{at}
use Rattle.sheet.proofs.Forms.{Width, width_for_fits}
use Rattle.sheet_reader.proofs.AcceptedSheets.{readable_alone}
use Rattle.sheet_writer.proofs.SheetBytes.{written_over}
use Rattle.sheet_join.specs.Join.{joint_order, joint_sweeps, joint_codes, joint_matrix}
use Rattle.sheet_join.proofs.JoinOutcomes.{join_accepted_as}
use Rattle.sheet_join.proofs.Tables.{Joinable, joinable}
use Rattle.sheet_join.proofs.join.Goals as goal
use Rattle.sheet_join.proofs.join.Goals.{In_ok-pair}

-- what is known of the two sheets, and of the pair
known : (c : In_ok-pair) → Joinable c.args.first.now c.args.second.now (length c.args.sheet.now)
known c = joinable _ _ _ (sym c.in_ok-pair.ensures.answer)

width : (c : In_ok-pair) → c.in_ok-pair.pair.width ≡ width_for (joint_codes c.args.first.now c.args.second.now)
width c = let same = c.in_ok-pair.ensures.pair in rw (same.0, same.1) at c.in_ok-pair.pair.form

order : (c : In_ok-pair) → c.in_ok-pair.pair.n ≡ joint_order c.args.first.now c.args.second.now
order c = let same = c.in_ok-pair.ensures.pair in rw (same.0, same.1) at c.in_ok-pair.pair.order

pub bounds-first-1 : goal.bounds-first-1
bounds-first-1 c = omega (arith, (readable_alone _ (known (goal.at.bounds-first-1 c).In_ok-pair).first_good).head)

pub bounds-second-1 : goal.bounds-second-1
bounds-second-1 c = omega (arith, (readable_alone _ (known (goal.at.bounds-second-1 c).In_ok-pair).second_good).head)

pub put_sheet-requires-clause-sizes : goal.put_sheet-requires-clause-sizes
put_sheet-requires-clause-sizes c =
    let p = (goal.at.put_sheet-requires-clause-sizes c).In_ok-pair in
    let pair = c.in_ok-pair.pair in
    let fits : Width pair.width = rw (width p) (width_for_fits _) in
    let small : pair.n ≤ largest_order = omega (arith, order p, (order_is _ (known p).order).1) in
    (fits.0, fits.1, small, rw (width p, order p) (known p).room)

pub returns : goal.returns
returns c =
    let p = (goal.at.returns c).In_ok-pair in
    let pair = c.in_ok-pair.pair in
    let same = c.in_ok-pair.ensures.pair in
    let b = c.args.first.now in
    let d = c.args.second.now in
    let n = joint_order b d in
    let l = joint_matrix b d in
    let put = c.put_sheet.ensures.written (joint_codes b d) (at n l)
    (λ k x h e. let given : x ≡ get_or (joint_codes pair.first.now pair.second.now) k 0 = search rules in rw (same.0, same.1) at given)
    (λ i j x h o e.
    let m = joint_order pair.first.now pair.second.now in
    let given : x ≡ to_bits binary64 (at m (joint_matrix pair.first.now pair.second.now) (i + 1) (j + 1)) = search rules in
    rw (same.0, same.1) at given) in
    join_accepted_as _ _ _ c.in_ok-pair.ensures.answer
    (written_over n (joint_sweeps b d) (joint_codes b d) l c.args.sheet.now (known p).room (width p)
    (rw (order p, c.max-sweeps.ensures) at put) (rw (order p) at c.put_sheet.ensures.long))
