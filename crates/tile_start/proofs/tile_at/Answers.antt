use Rattle.std.proofs.Common.{rules, arith}
use Rattle.matrix.specs.Matrix.{entry_of}
use Rattle.runs.specs.State.{identity}
use Rattle.tile_start.proofs.StartTiles.{in_use}
use Rattle.tile_start.proofs.tile_at.Goals as goal

pub returns : goal.returns
returns c =
    let a = c.args in
    let entries = c.quad_at.ensures (entry_of a.n a.matrix.now) (λ p q x h. search rules) in
    let units = c.quad_at-2.ensures identity (λ p q x h. search rules) in
    in_use _ _ _ _ (omega arith) (omega arith) c.first_line-first.ensures entries units c.tile_with.ensures
