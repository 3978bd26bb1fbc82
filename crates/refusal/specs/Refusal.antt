-- The refusals in the numbers of document 01, "Refused, by place", and of document 02. Definitions only.
use Rattle.std.specs.Prelude.{ℕ, List, [], ◌∷◌, Option, Some, None}
use Rattle.refusal.specs.declared.Refusal.{Refusal}
use Rattle.refusal.specs.declared.Refusal.TheVariants.{Order, Sweeps, Length, Code, NotFinite, NotMirrored, TooShort, Spoiled, NoRoot, SharedCode}

-- The number of each refusal, and the values beside it: 1 to 9 by document 01's table, 10 by document 02 (viii).
abbrev pub number_and_values : Refusal → ℕ × List ℕ
number_and_values Order = (1, [])
number_and_values Sweeps = (2, [])
number_and_values Length = (3, [])
number_and_values Code = (4, [])
number_and_values (NotFinite row column) = (5, row ∷ column ∷ [])
number_and_values (NotMirrored row column) = (6, row ∷ column ∷ [])
number_and_values TooShort = (7, [])
number_and_values Spoiled = (8, [])
number_and_values NoRoot = (9, [])
number_and_values SharedCode = (10, [])

abbrev pub number_of : Refusal → ℕ
number_of r = (number_and_values r).0

abbrev pub values_of : Refusal → List ℕ
values_of r = (number_and_values r).1

-- The values of a place: a row and a column, or none.
abbrev pub place_values : Option (ℕ × ℕ) → List ℕ
place_values None = []
place_values (Some place) = place.0 ∷ place.1 ∷ []
