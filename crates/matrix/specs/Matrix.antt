-- Document 01: a matrix is n * n values, row by row. Rows and columns are numbered from 1. Definitions only.
use Rattle.std.specs.Prelude.{ℕ, ◌+◌, ◌-◌, ◌*◌, ◌/◌, ◌%◌, Bool, false, cond, ◌&&◌, List, eqb, leb, length, get_or, Float}
use Rattle.std.specs.Float.{nan}
use Rattle.lists.specs.Tabulate.{tabulate}

-- The entry in row r and column c.
unfoldable pub at : ℕ → List Float → ℕ → ℕ → Float
at n l r c = get_or l ((r - 1) * n + (c - 1)) nan

-- The list of the matrix A.
unfoldable pub flat : ℕ → (ℕ → ℕ → Float) → List Float
flat n A = tabulate (n * n) (λ k. A (k / n + 1) (k % n + 1))

-- p is a line of a matrix of order n.
abbrev pub is_line : ℕ → ℕ → Bool
is_line n p = cond (eqb p 0) false (leb p n)

-- r and c are lines, and a length is that of the matrix.
unfoldable pub is_place : ℕ → ℕ → ℕ → ℕ → Bool
is_place n r c long = is_line n r && (is_line n c && eqb long (n * n))

-- The entry in row r and column c, and NaN where there is none.
unfoldable pub entry_of : ℕ → List Float → ℕ → ℕ → Float
entry_of n l r c = cond (is_place n r c (length l)) (at n l r c) nan
