-- Document 01, "Plain run", "The array", and document 02 (ii): what a run begins with. Definitions only.
use Rattle.std.specs.Prelude.{ℕ, cond, ◌||◌, List, eqb, Float}
use Rattle.float64.specs.Values.{plus_zero, one}
use Rattle.matrix.specs.Matrix.{at, flat}

-- The two matrices of a run, by row and column. The real lines are 1 to n; the pairs of an odd order have line 0 too.
pub record State : Type 0 where
  pub matrix : ℕ → ℕ → Float
  pub vectors : ℕ → ℕ → Float

abbrev pub state : (ℕ → ℕ → Float) → (ℕ → ℕ → Float) → State
state A E = record { matrix = A; vectors = E }

unfoldable pub identity : ℕ → ℕ → Float
identity r c = cond (eqb r c) one plus_zero

-- Line 0 is +0 throughout.
unfoldable pub bordered : (ℕ → ℕ → Float) → ℕ → ℕ → Float
bordered A r c = cond (eqb r 0 || eqb c 0) plus_zero (A r c)

-- The matrix as lent, and the identity.
unfoldable pub start_of : ℕ → List Float → State
start_of n l = state (bordered (at n l)) (bordered identity)

-- What refusal 8 leaves in a result.
unfoldable pub zeros : ℕ → List Float
zeros n = flat n (λ r c. plus_zero)
