use Rattle.plain_pair.proofs.TurnedStates.{turn_made}
use Rattle.plain_pair.proofs.Lines.turn_matrix.Goals as goal

pub returns : goal.returns
returns c =
    turn_made _ _ _ c.args.parameters c.args.a.now _ _ _ _ c.args.self.are_two c.requires
    c.new_diagonal-sides.ensures c.turn_rows.ensures c.turn_columns.ensures c.set.ensures
