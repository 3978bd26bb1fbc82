use borrow.Author.Rules.{rules}
use Rattle.array.proofs.TickedArray.{one_more}
use Rattle.array.proofs.Array.tick.Goals as goal

pub after-requires : goal.after-requires
after-requires c = one_more _ (search rules)
