use Rattle.root.proofs.DigitLoop.{taken, passed, done}
use Rattle.root.proofs.Floors.{found_by_digits}
use Rattle.root.proofs.whole.digits.Goals as goal
use Rattle.root.proofs.whole.digits.Goals.{then-test-rest, else-test-rest}

pub loop-preserved : goal.loop-preserved
loop-preserved c = elim c.if-test-rest.branch [
  | then-test-rest w ↦ taken _ _ _ _ _ c.loop.invariant c.loop-test.true _ _ w.if-test-rest.true w.rest-is w.root-is
  | else-test-rest w ↦ passed _ _ _ _ _ c.loop.invariant c.loop-test.true _ _ w.if-test-rest.false w.rest-is w.root-is
]

pub returns : goal.returns
returns c = found_by_digits _ _ c.requires.0 c.requires.1 (done c.loop.invariant c.loop-test.false)
