-- The bytes so far spell the number n, which has at most as many digits.
use Rattle.std.proofs.Common.{◌≡◌, ◌^◌, ◌<◌, Some}
use Rattle.test_io.specs.TextLines.{spelt}
use Rattle.test_io.proofs.parse.Given as goal

abbrev pub invariant-loop-b : goal.invariant-loop-b
invariant-loop-b l = record { spelt : spelt l.b-index l.text ≡ Some l.n; few : l.n < 16 ^ l.b-index }
