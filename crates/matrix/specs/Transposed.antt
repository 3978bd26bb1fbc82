-- A matrix transposed, whole and in part. Definitions only.
use Rattle.std.specs.Prelude.{ℕ, ◌+◌, ◌*◌, max, min, Bool, cond, ◌||◌, ◌&&◌, List, eqb, leb, length, get_or, set, Float}
use Rattle.std.specs.Float.{nan}
use Rattle.matrix.specs.Matrix.{at, flat}

abbrev pub transposed : (ℕ → ℕ → Float) → ℕ → ℕ → Float
transposed A r c = A c r

-- A list with the matrix in it transposed, where its length is that of a matrix of order n.
unfoldable pub transposed_in : ℕ → List Float → List Float
transposed_in n l = cond (eqb (length l) (n * n)) (flat n (transposed (at n l))) l

-- A matrix whose entries in row r and column c are those of row c and column r where the test passes.
unfoldable pub across : (ℕ → ℕ → Bool) → (ℕ → ℕ → Float) → ℕ → ℕ → Float
across d A r c = cond (d r c) (A c r) (A r c)

-- r and c are among the first i lines, or one is the next line and the other among the first j.
unfoldable pub up_to : ℕ → ℕ → ℕ → ℕ → Bool
up_to i j r c = leb (max r c) i || (eqb (max r c) (i + 1) && leb (min r c) j)

-- A list with the values at i and j exchanged.
unfoldable pub exchanged : ℕ → ℕ → List Float → List Float
exchanged i j l = set (set l i (get_or l j nan)) j (get_or l i nan)
