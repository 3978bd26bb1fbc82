-- What a C function answers: a number of document 01, and the lent row and column. Definitions only.
use Rattle.std.specs.Prelude.{ℕ, List, [], ◌∷◌}
use Rattle.refusal.specs.Answers.{Answered, given, refused}

-- The number that is answered, and what the lent row and column hold after it.
pub record CAnswer : Type 0 where
  pub number : ℕ
  pub row : ℕ
  pub column : ℕ

abbrev pub c_answer : ℕ → ℕ → ℕ → CAnswer
c_answer k i j = record { number = k; row = i; column = j }

-- A refusal that has a row and a column sets those that are lent, i and j; no other does.
unfoldable pub place_or : List ℕ → ℕ → ℕ → ℕ × ℕ
place_or [] i j = (i, j)
place_or (r ∷ []) i j = (i, j)
place_or (r ∷ (c ∷ values)) i j = (r, c)

-- The refusal with the number k and these values.
unfoldable pub refused_as : ℕ → List ℕ → ℕ → ℕ → CAnswer
refused_as k values i j = c_answer k (place_or values i j).0 (place_or values i j).1

-- 0 where nothing is refused.
unfoldable pub c_answer_of : {A : Type 0} → Answered A → ℕ → ℕ → CAnswer
c_answer_of (given x) i j = c_answer 0 i j
c_answer_of (refused k values) i j = refused_as k values i j

-- The number alone.
unfoldable pub number_answered : {A : Type 0} → Answered A → ℕ
number_answered (given x) = 0
number_answered (refused k values) = k
