-- What a call answers, and the first refusal of a table. Definitions only.
use Rattle.std.specs.Prelude.{ℕ, zero, suc, Bool, cond, List, [], ◌∷◌, Result, Ok, Err}
use Rattle.refusal.specs.declared.Refusal.{Refusal}
use Rattle.refusal.specs.Refusal.{number_of, values_of}

-- A value, or the number of a refusal and the values beside it.
pub data Answered (A : Type 0) : Type 0 where
  given : A → Answered A
  refused : ℕ → List ℕ → Answered A

abbrev pub refused_by : {A : Type 0} → Refusal → Answered A
refused_by r = refused (number_of r) (values_of r)

-- What a call answers whose value stands for f of it.
abbrev pub answered_as : {A B : Type 0} → (A → B) → Result A Refusal → Answered B
answered_as f (Ok x) = given (f x)
answered_as f (Err r) = refused_by r

-- An answer that gives no value of its own gives the unit value.
abbrev pub answered : Result Unit Refusal → Answered Unit
answered = answered_as (λ x. x)

-- ---- from one answer to another
-- The same with the value x.
abbrev pub giving : {A B : Type 0} → B → Answered A → Answered B
giving x (given y) = given x
giving x (refused k values) = refused k values

-- The value that is given, or another.
abbrev pub value_or : {A : Type 0} → Answered A → A → A
value_or (given x) y = x
value_or (refused k values) y = y

-- What comes of a call: o where nothing is refused, and otherwise what its refusal leaves.
abbrev pub unless_refused : {A B O : Type 0} → Answered A → O → (Answered B → O) → O
unless_refused (given x) o left = o
unless_refused (refused k values) o left = left (refused k values)

-- ---- tables
-- The first of two answers that is a refusal.
abbrev pub or_else : Answered Unit → Answered Unit → Answered Unit
or_else (given x) b = b
or_else (refused k values) b = refused k values

-- A row of a table: a refusal under a condition.
abbrev pub row : Bool → Refusal → Answered Unit
row b r = cond b (refused_by r) (given tt)

-- The first row that refuses.
abbrev pub table : List (Answered Unit) → Answered Unit
table [] = given tt
table (a ∷ rows) = or_else a (table rows)

-- The first of g 1 to g n that is a refusal.
unfoldable pub first : ℕ → (ℕ → Answered Unit) → Answered Unit
first zero g = given tt
first (suc n) g = or_else (first n g) (g (suc n))
