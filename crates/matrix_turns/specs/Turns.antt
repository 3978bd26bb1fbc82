-- Document 01, "One rotation", and document 02 (vii): what is found of the pair of the lines p and q of a matrix, their row turn and their column turn.
-- Definitions only.
use Rattle.std.specs.Prelude.{ℕ, zero, suc, Bool, not, cond, ◌||◌, ◌&&◌, List, eqb, length, get_or, set, Float}
use Rattle.std.specs.Float.{nan}
use Rattle.rotation.specs.declared.Parameters.{Parameters}
use Rattle.root.specs.declared.Root.{Root}
use Rattle.rotation.specs.declared.Found.{Found}
use Rattle.rotation.specs.Rotation.{of_pair, turn_of}
use Rattle.rotation.specs.Exact.{exact_pair, tangent_found}
use Rattle.matrix.specs.Matrix.{at, flat, is_place}

-- The tangent of the pair of the lines p and q and whether its root is exact, its parameters, and whether both of its roots are exact.
abbrev pub tangent_at : ℕ → ℕ → (ℕ → ℕ → Float) → Root
tangent_at p q A = tangent_found (A p p) (A q q) (A p q)

abbrev pub parameters_of : ℕ → ℕ → (ℕ → ℕ → Float) → Parameters
parameters_of p q A = of_pair (A p p) (A q q) (A p q)

abbrev pub exact_of : ℕ → ℕ → (ℕ → ℕ → Float) → Bool
exact_of p q A = exact_pair (A p p) (A q q) (A p q)

abbrev pub found_at : ℕ → ℕ → (ℕ → ℕ → Float) → Found
found_at p q A = record { parameters = parameters_of p q A; exact = exact_of p q A }

-- Place i of a line of which the places p and q are turned: x stood at p, y at q and z at i.
unfoldable pub turned_at : Parameters → ℕ → ℕ → ℕ → Float → Float → Float → Float
turned_at P p q i x y z = cond (eqb i p) (turn_of P x y).left (cond (eqb i q) (turn_of P x y).right z)

-- r is one of the pair.
abbrev pub is_one : ℕ → ℕ → ℕ → Bool
is_one p q r = eqb r p || eqb r q

-- For any other column.
unfoldable pub row_turn : Parameters → ℕ → ℕ → (ℕ → ℕ → Float) → ℕ → ℕ → Float
row_turn P p q A r c = cond (is_one p q c) (A r c) (turned_at P p q r (A p c) (A q c) (A r c))

-- The mirror of it, for any other row.
unfoldable pub column_turn : Parameters → ℕ → ℕ → (ℕ → ℕ → Float) → ℕ → ℕ → Float
column_turn P p q A r c = cond (is_one p q r) (A r c) (turned_at P p q c (A r p) (A r q) (A r c))

-- In all columns.
unfoldable pub row_turn_all : Parameters → ℕ → ℕ → (ℕ → ℕ → Float) → ℕ → ℕ → Float
row_turn_all P p q A r c = turned_at P p q r (A p c) (A q c) (A r c)

-- In all rows, as the eigenvectors are turned.
unfoldable pub column_turn_all : Parameters → ℕ → ℕ → (ℕ → ℕ → Float) → ℕ → ℕ → Float
column_turn_all P p q A r c = turned_at P p q c (A r p) (A r q) (A r c)

-- p and q are two different lines, and a length is that of the matrix.
unfoldable pub two_lines : ℕ → ℕ → ℕ → ℕ → Bool
two_lines n p q long = not (eqb p q) && is_place n p q long

-- A list with the matrix in it turned, where it has the lines p and q.
unfoldable pub on_lines : ℕ → ℕ → ℕ → ((ℕ → ℕ → Float) → ℕ → ℕ → Float) → List Float → List Float
on_lines n p q turn l = cond (two_lines n p q (length l)) (flat n (turn (at n l))) l

-- A list with the values at i and j turned.
unfoldable pub places_turned : Parameters → ℕ → ℕ → List Float → List Float
places_turned P i j l = set (set l i (turn_of P (get_or l i nan) (get_or l j nan)).left) j (turn_of P (get_or l i nan) (get_or l j nan)).right

-- The values at f r and g r turned for each r below n, one after the other.
unfoldable pub turn_lines : (ℕ → ℕ) → (ℕ → ℕ) → Parameters → ℕ → List Float → List Float
unfolding places_turned
turn_lines f g P zero l = l
turn_lines f g P (suc r) l = places_turned P (f r) (g r) (turn_lines f g P r l)
