-- Document 01, "Refused, by place", and document 02 (i): what the reader of sheets answers and leaves. Definitions only.
use Rattle.std.specs.Prelude.{ℕ, ◌≤◌, ◌≡◌, Bool, not, cond, ◌&&◌, List, [], ◌∷◌, eqb, ltb, length, Float, Result}
use Rattle.std.specs.Float.{binary64}
use Rattle.std.specs.Float.Ieee.{of_bits}
use Rattle.float64.specs.Values.{finite}
use Rattle.refusal.specs.Answers.{Answered, given, refused_by, answered_as, unless_refused, row, table, first}
use Rattle.refusal.specs.declared.Refusal.{Refusal}
use Rattle.refusal.specs.declared.Refusal.TheVariants.{Length, Code, NotFinite}
use Rattle.sizes.specs.Sizes.{largest_order, order_row, sweeps_row}
use Rattle.matrix.specs.Matrix.{flat}
use Rattle.matrix.specs.Entries.{is_square}
use Rattle.sheet.specs.Format.{sheet_length, width_in, order_in, sweeps_in, length_in, codes_in, pattern_in, entry_in}
use Rattle.sheet.specs.Codes.{bad_codes, long_codes}
use Rattle.sheet_reader.specs.declared.Sizes.{Sizes}

-- The sheet b has the order n, codes of w bytes and the length of its form.
abbrev pub OfForm : ℕ → ℕ → List ℕ → Type 0
OfForm w n b = (w ≡ width_in b) × (n ≡ order_in b) × (n ≤ largest_order) × (length b ≡ sheet_length w n)

-- The stored entries in row order.
unfoldable pub not_finite_in : List ℕ → ℕ → ℕ → Answered Unit
not_finite_in b r c = cond (finite (of_bits binary64 (pattern_in b r c))) (given tt) (refused_by (NotFinite r c))

unfoldable pub stored_row : List ℕ → Answered Unit
stored_row b = first (order_in b) (λ r. first r (not_finite_in b r))

-- The long form, though every code fits a byte.
unfoldable pub long_in_vain : List ℕ → Bool
long_in_vain b = eqb (width_in b) 2 && not (long_codes (codes_in b))

-- The table from top to bottom. long says that all lengths are right.
abbrev pub sheet_table : List ℕ → Bool → Answered Unit
sheet_table b long =
    table
    (row (ltb (length b) 2) Length ∷ order_row (order_in b) ∷ sweeps_row (sweeps_in b) ∷ row (not long) Length ∷ row (bad_codes (codes_in b)) Code
    ∷ row (long_in_vain b) Code ∷ stored_row b ∷ [])

-- What a sheet is refused by, by its bytes alone.
unfoldable pub sheet_answer : List ℕ → Answered Unit
sheet_answer b = sheet_table b (eqb (length b) (length_in b))

-- What a reading is refused by; lc and lm are the lengths of the lent codes and of the lent matrix.
unfoldable pub read_answer : List ℕ → ℕ → ℕ → Answered Unit
read_answer b lc lm = sheet_table b (eqb lc (order_in b) && (is_square (order_in b) lm && eqb (length b) (length_in b)))

-- What a reading answers, and what the lent codes and the lent matrix hold after it.
pub record ReadOutcome : Type 0 where
  pub answer : Answered (ℕ × ℕ)
  pub codes : List ℕ
  pub matrix : List Float

abbrev pub read_outcome : Answered (ℕ × ℕ) → List ℕ → List Float → ReadOutcome
read_outcome a c m = record { answer = a; codes = c; matrix = m }

abbrev pub reading_answered : Result Sizes Refusal → Answered (ℕ × ℕ)
reading_answered = answered_as (λ s. (s.n, s.sweeps))

-- The order and the sweeps, the codes, and the matrix with both triangles.
unfoldable pub content_of : List ℕ → ReadOutcome
content_of b = read_outcome (given (order_in b, sweeps_in b)) (codes_in b) (flat (order_in b) (entry_in b))

unfoldable pub read_of : List ℕ → List ℕ → List Float → ReadOutcome
read_of b c m = unless_refused (read_answer b (length c) (length m)) (content_of b) (λ a. read_outcome a c m)
