use mathlib.Core.Path.{sym}
use Rattle.sizes.proofs.Orders.{sizes_given}
use Rattle.forecast.proofs.of_run.Goals as goal

pub figures_of-requires : goal.figures_of-requires
figures_of-requires c = sizes_given _ _ (sym c.in_ok-tested.ensures)
