use Rattle.root.proofs.DigitLoop.{At}
use Rattle.root.proofs.whole.digits.Given as goal

-- root has at most as many binary digits as turns were made, and its square and the rest are the number of the digits taken so far.
abbrev pub invariant-loop : goal.invariant-loop
invariant-loop l = At l.k l.left l.rest l.root l.counter
