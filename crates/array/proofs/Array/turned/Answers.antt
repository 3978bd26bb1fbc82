use borrow.Author.Rules.{rules}
use mathlib.Core.Path.{◌≡◌}
use lib.ListN.{get_or}
use Rattle.runs.specs.Cells.{setting}
use Rattle.array.specs.Arrays.{no_quad, no_part, no_tile}
use Rattle.array.proofs.TickedTiles.{turns}
use Rattle.array.proofs.Array.turned.Goals as goal

pub returns : goal.returns
unfolding no_tile no_part no_quad
returns c =
    let l = c.args.self.now.tiles in
    let near = c.sources-from.result in
    let a : c.map.result.alpha ≡ get_or l near.corners.alpha no_tile = search rules in
    let b : c.map.result.beta ≡ get_or l near.corners.beta no_tile = search rules in
    let d : c.map.result.gamma ≡ get_or l near.corners.gamma no_tile = search rules in
    let e : c.map.result.delta ≡ get_or l near.corners.delta no_tile = search rules in
    turns (setting c.args.self.now.n) c.args.place.last _ _ _ _ _ near c.sources-from.ensures.places c.of.ensures c.of-2.ensures
    (rw (a, b, d, e) at c.brought-brought.ensures) c.turned.ensures
