-- Document 02 (vi) and (vii): the pairs that a run meets, which of them turn and which have a rounded root. Steps and processors count from 0. Definitions
-- only.
use Rattle.std.specs.Prelude.{ℕ, ◌+◌, Bool, not, get_or}
use Rattle.lists.specs.Bounded.{count, total}
use Rattle.rotation.specs.declared.Found.{Found}
use Rattle.ordering.specs.Pairs.{registers_at}
use Rattle.matrix_turns.specs.Turns.{found_at}
use Rattle.sizes.specs.Sizes.{processors_of}
use Rattle.runs.specs.State.{State}
use Rattle.runs.specs.Blocks.{ruled_found}
use Rattle.runs.specs.Counts.{is_turn}
use Rattle.plain_run.specs.State.{pairs_rotated, after}

-- What processor i finds of its pair in step k of a run from X: at its turn, once the processors before it have had theirs.
unfoldable pub pair_met : ℕ → ℕ → ℕ → State → Found
pair_met n k i X =
    let r = registers_at n k in
    ruled_found n i (found_at (get_or r.left i 0) (get_or r.right i 0) (pairs_rotated n r.left r.right i (after n k X)).matrix)

-- It turns.
unfoldable pub turns_in : ℕ → ℕ → ℕ → State → Bool
turns_in n k i X = is_turn (pair_met n k i X).parameters

-- It has a rounded root.
unfoldable pub rounded_in : ℕ → ℕ → ℕ → State → Bool
rounded_in n k i X = not (pair_met n k i X).exact

-- In how many of the k steps from step z on processor i turns.
unfoldable pub turns_from : ℕ → ℕ → ℕ → ℕ → State → ℕ
turns_from n z k i X = count (λ s. turns_in n (z + s) i X) k

-- In how many of the first k steps processor i has a rounded root.
unfoldable pub rounded_of : ℕ → ℕ → ℕ → State → ℕ
rounded_of n k i X = count (λ s. rounded_in n s i X) k

-- How many pairs of the first k steps pass a test of the step and the processor.
unfoldable pub pairs_by : ℕ → (ℕ → ℕ → Bool) → ℕ → ℕ
pairs_by n test k = total k (λ s. count (test s) (processors_of n))

abbrev pub turns_by : ℕ → ℕ → State → ℕ
turns_by n k X = pairs_by n (λ s i. turns_in n s i X) k

abbrev pub rounded_by : ℕ → ℕ → State → ℕ
rounded_by n k X = pairs_by n (λ s i. rounded_in n s i X) k
