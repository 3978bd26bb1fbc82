use Rattle.array.specs.Runs.{start_array}
use Rattle.array_run.proofs.whole.WholeRun.start.Goals as goal

pub invariant_of-result : goal.invariant_of-result
unfolding start_array
invariant_of-result c = rw c.of_matrix.ensures (record { has_order = c.requires.0; few_sweeps = c.requires.1 })
