use Rattle.std.proofs.Common.{◌*◌, ◌≤◌, arith, sym, length-take-le}
use Rattle.sizes.proofs.Orders.{order_is}
use Rattle.listing.proofs.ListingParts.{few_entries}
use Rattle.listing.proofs.list.Goals as goal
use Rattle.listing.proofs.list.Goals.{After-min-n}

few : (c : After-min-n) → c.min-n.result * c.min-n.result ≤ 1024
few c = few_entries _ (omega arith)

pub slice_bounds-list_in-end-2 : goal.slice_bounds-list_in-end-2
slice_bounds-list_in-end-2 c = sym (length-take-le _ _ (few (goal.at.slice_bounds-list_in-end-2 c).After-min-n))

pub slice_bounds-list_in-end-3 : goal.slice_bounds-list_in-end-3
slice_bounds-list_in-end-3 c = sym (length-take-le _ _ (few (goal.at.slice_bounds-list_in-end-3 c).After-min-n))

pub slice_bounds-list_in-end-4 : goal.slice_bounds-list_in-end-4
slice_bounds-list_in-end-4 c = sym (length-take-le _ _ (few (goal.at.slice_bounds-list_in-end-4 c).After-min-n))

pub list_in-requires : goal.list_in-requires
list_in-requires c =
    λ e.
    let small = (order_is _ e).1 in
    let f = few_entries _ small in
    grind (arith, length-take-le, small, f)
