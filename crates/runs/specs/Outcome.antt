-- Document 01, and document 02 (vi) and (vii): what any run is refused by before it, and what it answers and leaves. Definitions only.
use Rattle.std.specs.Prelude.{ℕ, not, ◌&&◌, List, [], ◌∷◌, length, Float}
use Rattle.refusal.specs.Answers.{Answered, giving, row, table}
use Rattle.refusal.specs.declared.Refusal.TheVariants.{Length}
use Rattle.sizes.specs.Sizes.{order_row, sweeps_row}
use Rattle.matrix.specs.Entries.{is_square, finite_row, mirror_row}

-- The rows for the slices: lr and lv are the lengths of the two results, l is the matrix.
abbrev pub slice_rows : ℕ → List Float → ℕ → ℕ → List (Answered Unit)
slice_rows n l lr lv = row (not (is_square n lr && (is_square n lv && is_square n (length l)))) Length ∷ finite_row n l ∷ mirror_row n l ∷ []

unfoldable pub slices_answer : ℕ → List Float → ℕ → ℕ → Answered Unit
slices_answer n l lr lv = table (slice_rows n l lr lv)

-- The rows of the table before a run.
abbrev pub run_rows : ℕ → ℕ → List Float → ℕ → ℕ → List (Answered Unit)
run_rows n sweeps l lr lv = order_row n ∷ sweeps_row sweeps ∷ slice_rows n l lr lv

unfoldable pub before_run : ℕ → ℕ → List Float → ℕ → ℕ → Answered Unit
before_run n sweeps l lr lv = table (run_rows n sweeps l lr lv)

-- What a run answers, with a value of type A where it is not refused, and what the two results hold after it.
pub record Outcome (A : Type 0) : Type 0 where
  pub answer : Answered A
  pub result : List Float
  pub vectors : List Float

abbrev pub outcome : {A : Type 0} → Answered A → List Float → List Float → Outcome A
outcome a l e = record { answer = a; result = l; vectors = e }

-- What either run reports: the sweeps that it made, and how many pairs it met had a rounded root.
pub record Report : Type 0 where
  pub sweeps : ℕ
  pub rounded : ℕ

abbrev pub report : ℕ → ℕ → Report
report sweeps rounded = record { sweeps = sweeps; rounded = rounded }

-- The results as they were, beside a refusal.
abbrev pub results_kept : {A : Type 0} → List Float → List Float → Answered A → Outcome A
results_kept r v a = outcome a r v

-- The same outcome with the value x in its answer.
abbrev pub answering : {A B : Type 0} → B → Outcome A → Outcome B
answering x o = outcome (giving x o.answer) o.result o.vectors
