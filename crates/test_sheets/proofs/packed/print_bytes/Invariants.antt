-- At most eight bytes come at a time.
use Rattle.std.proofs.Common.{◌≡◌}
use Rattle.std.specs.Slice.Iter.{chunks_size}
use Rattle.test_sheets.proofs.packed.print_bytes.Given as goal

abbrev pub invariant-loop-chunk : goal.invariant-loop-chunk
invariant-loop-chunk g l = (goal.iterator-loop-chunk g).is_finite l.chunk-iterator × (chunks_size l.chunk-iterator ≡ 8)
