-- Document 01, "Refused, by place": refusals 3, 5 and 6 of a lent matrix. Definitions only.
use Rattle.std.specs.Prelude.{ℕ, ◌*◌, Bool, not, cond, List, [], ◌∷◌, eqb, ltb, length, Float}
use Rattle.refusal.specs.Answers.{Answered, given, refused_by, row, table, first}
use Rattle.refusal.specs.declared.Refusal.TheVariants.{Length, NotFinite, NotMirrored}
use Rattle.float64.specs.Values.{finite, same_bits}
use Rattle.matrix.specs.Matrix.{at}

unfoldable pub not_finite_at : ℕ → List Float → ℕ → ℕ → Answered Unit
not_finite_at n l r c = cond (finite (at n l r c)) (given tt) (refused_by (NotFinite r c))

-- Of a row and a column, the row is the smaller.
unfoldable pub not_mirrored_at : ℕ → List Float → ℕ → ℕ → Answered Unit
not_mirrored_at n l r c = cond (ltb r c) (cond (same_bits (at n l r c) (at n l c r)) (given tt) (refused_by (NotMirrored r c))) (given tt)

-- in row order
abbrev pub first_place : ℕ → (ℕ → ℕ → Answered Unit) → Answered Unit
first_place n g = first n (λ r. first n (g r))

-- The rows of a table for the entries of a matrix: all are tested for 5 before any for 6.
unfoldable pub finite_row : ℕ → List Float → Answered Unit
finite_row n l = first_place n (not_finite_at n l)

unfoldable pub mirror_row : ℕ → List Float → Answered Unit
mirror_row n l = first_place n (not_mirrored_at n l)

-- A list of so many values can be a matrix of order n.
abbrev pub is_square : ℕ → ℕ → Bool
is_square n k = eqb k (n * n)

unfoldable pub entries_of : ℕ → List Float → Answered Unit
entries_of n l = table (row (not (is_square n (length l))) Length ∷ finite_row n l ∷ mirror_row n l ∷ [])
