use mathlib.Core.Path.{sym}
use Rattle.plain_pair.proofs.TurnedStates.{still_held, turn_held}
use Rattle.plain_pair.proofs.Lines.turn.Goals as goal

pub returns-in-Still : goal.returns-in-Still
returns-in-Still c =
    let h = c.requires in
    still_held _ _ _ c.args.a.now _ _ c.args.self.are_two h.matrix h.eigenvectors (sym c.in-Still.is) c.clear.ensures

pub returns-in-Turn : goal.returns-in-Turn
returns-in-Turn c =
    let h = c.requires in
    turn_held _ _ _ c.args.parameters c.args.a.now _ c.args.vectors.now _ c.args.self.are_two h.matrix h.eigenvectors c.turn_matrix.ensures c.turn_rows.ensures
