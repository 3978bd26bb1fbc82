use native.Mathlib.Omega.{arith}
use Rattle.forecast.proofs.Answers.{Few, few_of, rotations_are, figures_are}
use Rattle.forecast.proofs.figures_of.Goals as goal
use Rattle.forecast.proofs.figures_of.Goals.{After-steps_of-steps}

few : (c : After-steps_of-steps) → Few c.processors_of-processors.result c.steps_of-steps.result
few c = few_of _ _ c.requires c.processors_of-processors.ensures c.steps_of-steps.ensures

pub overflow_mul-rotations : goal.overflow_mul-rotations
overflow_mul-rotations c = let f = (few c).tiles in record { fits = omega arith }

pub overflow_mul-rotations-2 : goal.overflow_mul-rotations-2
overflow_mul-rotations-2 c = let f = (few c).rotations in record { fits = omega arith }

pub overflow_sub-off_diagonal : goal.overflow_sub-off_diagonal
overflow_sub-off_diagonal c = (few c).some

pub overflow_mul-off_diagonal : goal.overflow_mul-off_diagonal
overflow_mul-off_diagonal c = let f = (few c).off_diagonal in record { fits = omega arith }

pub overflow_mul-off_diagonal-2 : goal.overflow_mul-off_diagonal-2
overflow_mul-off_diagonal-2 c = let f = (few c).rotations_off in record { fits = omega arith }

pub overflow_mul-result : goal.overflow_mul-result
overflow_mul-result c = let f = (few c.before).rotations in record { fits = omega arith }

pub overflow_mul-result-2 : goal.overflow_mul-result-2
overflow_mul-result-2 c = let f = (few c.before).rotations in let g = (few c.before).rotations_off in record { fits = omega arith }

pub returns : goal.returns
returns c =
    let r = rotations_are _ _ c.processors_of-processors.ensures c.steps_of-steps.ensures in
    figures_are _ _ c.ticks_of.ensures (omega arith) (omega arith)
