use mathlib.Core.Path.{ap, ◌∙◌}
use Rattle.systolic.specs.Tiles.{phase_in}
use Rattle.tile.proofs.TileTick.{tile_settled}
use Rattle.tile.proofs.Tile.after.Goals as goal

pub returns : goal.returns
returns c = λ s.
    let phase = c.phase_in-phase.ensures.number ∙ ap phase_in c.action_at-action.ensures in
    tile_settled s c.args.self _ _ _ _ _ phase c.after.ensures c.is_marked.ensures
