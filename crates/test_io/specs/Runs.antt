-- The heads of runs. Definitions only.
use Rattle.std.specs.Prelude.{ℕ, ◌+◌, ◌*◌, ◌≤◌, Option, Some, None}
use Rattle.sizes.specs.Sizes.{largest_order}
use Rattle.test_io.specs.declared.runs.Run.{Run}

-- The values that a buffer holds: those of a matrix of the first even order above the largest.
abbrev pub limit : ℕ
limit = (largest_order + 2) * (largest_order + 2)

-- The buffers of a run have room for what it asks.
abbrev pub Lendable : Option Run → Type 0
Lendable None = Unit
Lendable (Some r) = (r.matrix ≤ limit) × (r.result ≤ limit) × (r.vectors ≤ limit)
