-- Document 01, "Plain run", and document 02 (ii): what a pair does to the matrix and the eigenvectors. Definitions only.
use Rattle.std.specs.Prelude.{ℕ, ◌≡◌, Bool, cond, ◌&&◌, List, eqb, length, Float}
use Rattle.systolic.specs.Sequential.{pair_block, place}
use Rattle.rotation.specs.declared.Parameters.{Parameters}
use Rattle.matrix.specs.Matrix.{at, flat}
use Rattle.matrix.specs.Transposed.{transposed}
use Rattle.runs.specs.State.{State, state}
use Rattle.runs.specs.Blocks.{ruled, matrix_block}
use Rattle.matrix_turns.specs.Turns.{parameters_of, row_turn, column_turn, column_turn_all, two_lines}

-- A matrix with x in row p and column q.
unfoldable pub with_entry : ℕ → ℕ → Float → (ℕ → ℕ → Float) → ℕ → ℕ → Float
with_entry p q x A r c = cond (eqb r p && eqb c q) x (A r c)

-- The row turn, then the column turn, then the four entries of the pair. A is the matrix before.
unfoldable pub pair_turned : Parameters → ℕ → ℕ → (ℕ → ℕ → Float) → ℕ → ℕ → Float
pair_turned P p q A = place (matrix_block P (pair_block p q A)) p q (column_turn P p q (row_turn P p q A))

-- Both matrices turned: the eigenvectors get the column turn on all rows.
abbrev pub state_turned : Parameters → ℕ → ℕ → State → State
state_turned P p q X = state (pair_turned P p q X.matrix) (column_turn_all P p q X.vectors)

-- The pair of processor i, from 0, in a run of order n.
unfoldable pub pair_rotated : ℕ → ℕ → ℕ → ℕ → State → State
pair_rotated n i p q X = state_turned (ruled n i (parameters_of p q X.matrix)) p q X

-- The state in two lent lists, and two lists that hold a state. The second list has the eigenvectors as rows.
unfoldable pub state_of : ℕ → List Float → List Float → State
state_of n l e = state (at n l) (transposed (at n e))

pub record Held (n : ℕ) (l e : List Float) (X : State) : Type 0 where
  pub matrix_held : l ≡ flat n X.matrix
  pub vectors_held : e ≡ flat n (transposed X.vectors)

-- Two lengths are that of a matrix of order n, and p and q are two of its lines.
unfoldable pub has_pair : ℕ → ℕ → ℕ → ℕ → ℕ → Bool
has_pair n p q first second = eqb second first && two_lines n p q first

-- The lists of a matrix and its eigenvectors.
pub record TwoLists : Type 0 where
  pub matrix_list : List Float
  pub vectors_list : List Float

abbrev pub two_lists : List Float → List Float → TwoLists
two_lists l e = record { matrix_list = l; vectors_list = e }

-- Two lists after the turn of a pair, where they have it.
unfoldable pub pair_of : Parameters → ℕ → ℕ → ℕ → List Float → List Float → TwoLists
pair_of P n p q l e =
    cond (has_pair n p q (length l) (length e))
    (two_lists (flat n (state_turned P p q (state_of n l e)).matrix) (flat n (transposed (state_turned P p q (state_of n l e)).vectors))) (two_lists l e)
