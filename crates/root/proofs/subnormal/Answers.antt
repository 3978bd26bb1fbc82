use Rattle.std.proofs.Common.{arith}
use Rattle.root.proofs.Scales.{raised}
use Rattle.root.proofs.subnormal.Goals as goal

pub overflow_sub-shift : goal.overflow_sub-shift
overflow_sub-shift c = let r = raised c.args.b c.requires.0 c.requires.1 in omega arith

pub overflow_add-z-2 : goal.overflow_add-z-2
overflow_add-z-2 c = let r = raised c.args.b c.requires.0 c.requires.1 in omega arith

pub guess-requires : goal.guess-requires
guess-requires c = let r = raised c.args.b c.requires.0 c.requires.1 in omega arith

pub scaled-requires : goal.scaled-requires
scaled-requires c = let r = raised c.args.b c.requires.0 c.requires.1 in omega arith

pub returns : goal.returns
returns c = c.scaled.ensures _ (raised c.args.b c.requires.0 c.requires.1).value
