-- A list with its first elements given by a formula. Definitions only.
use Rattle.std.specs.Prelude.{ℕ, zero, suc, List, [], ◌∷◌}

-- The first m elements are f 0 to f (m - 1), the others are as they were.
abbrev pub over : {A : Type 0} → ℕ → (ℕ → A) → List A → List A
over zero f l = l
over (suc m) f [] = []
over (suc m) f (x ∷ l) = f 0 ∷ over m (λ k. f (suc k)) l
