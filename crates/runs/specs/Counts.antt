-- Document 02 (vi) and (vii): the turns and the rounded pairs that a processor counts. Definitions only.
use Rattle.std.specs.Prelude.{ℕ, ◌+◌, ◌%◌, Bool, true, false, not, cond, ◌&&◌, eqb, ltb}
use Rattle.sizes.specs.Sizes.{most_counted, sweep_steps}
use Rattle.rotation.specs.declared.Parameters.{Parameters}
use Rattle.rotation.specs.declared.Parameters.TheVariants.{Still, Turn}
use Rattle.rotation.specs.declared.Found.{Found}
use Rattle.runs.specs.declared.Counts.{Counts}

-- The pair is not still.
abbrev pub is_turn : Parameters → Bool
is_turn Still = false
is_turn (Turn t c s) = true

-- The count d, and one more where `more` says so; a count at the most stays there.
unfoldable pub counted : Bool → ℕ → ℕ
counted more d = cond (more && ltb d most_counted) (d + 1) d

-- Step k, from 0, is the first of a sweep.
unfoldable pub begins_sweep : ℕ → ℕ → Bool
begins_sweep n k = eqb (k % sweep_steps n) 0

-- The turns in the current sweep after step k, in which the processor has the parameters P; d before it. The count begins anew with a sweep.
unfoldable pub turns_after : ℕ → ℕ → Parameters → ℕ → ℕ
turns_after n k P d = counted (is_turn P) (cond (begins_sweep n k) 0 d)

-- The pairs with a rounded root after a step in which the processor's pair is exact or not; d before it. The count goes on over the whole run.
unfoldable pub rounded_after : Bool → ℕ → ℕ
rounded_after exact d = counted (not exact) d

-- Both counts, and both after step k, in which f is found of the processor's pair.
abbrev pub counts : ℕ → ℕ → Counts
counts turns rounded = record { turns = turns; rounded = rounded }

abbrev pub counts_after : ℕ → ℕ → Found → Counts → Counts
counts_after n k f d = counts (turns_after n k f.parameters d.turns) (rounded_after f.exact d.rounded)
