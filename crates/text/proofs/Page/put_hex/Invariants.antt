-- The digits above the last k are put.
use Rattle.std.proofs.Common.{◌-◌, ◌*◌, ◌/◌, ◌^◌}
use Rattle.text.specs.Text.{hex_of}
use Rattle.text.specs.Pages.{Puts}
use Rattle.text.proofs.Page.put_hex.Given as goal

abbrev pub invariant-loop-k : goal.invariant-loop-k
invariant-loop-k l = Puts l.initial.self (hex_of (16 - l.k) (l.word / 2 ^ (4 * l.k))) l.self
