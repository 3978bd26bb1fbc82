use Rattle.std.proofs.Common.{◌*◌}
use lib.Ieee.{nan}
use Rattle.lists.proofs.Replaced.{Replaced}
use Rattle.capi.specs.Calls.{record_fields, record_flag}
use Rattle.capi.proofs.rows.put_records.Given as goal

-- The values and the flags of the first k records are written, the others are as they were.
abbrev pub invariant-loop-k : goal.invariant-loop-k
invariant-loop-k l =
    Replaced nan (record_fields l.n l.matrix l.step) l.initial.values (l.k * 3) l.values
    × Replaced 0 (record_flag l.n l.matrix l.step) l.initial.exact l.k l.exact
