-- The test of a whole matrix finds the first entry in row order that is not finite, or differs from its mirror. Assumes nothing.
use Prim.Native.Nat.{ℕ, ◌≤◌, ◌<◌}
use mathlib.Core.Path.{◌≡◌, refl}
use mathlib.Core.Bool.{Bool, true, false, cond}
use mathlib.Core.List.{List, [], ◌∷◌}
use native.Mathlib.Omega.{arith}
use borrow.Author.Tests.{ltb-true, ltb-false}
use lib.Dec.{ltb}
use lib.Ieee.{Float}
use Rattle.refusal.specs.Answers.{given, refused}
use Rattle.refusal.proofs.FirstPlaces.{fine, Searched, AtPlace, searched, place}
use Rattle.float64.specs.Values.{finite, same_bits}
use Rattle.matrix.specs.Matrix.{at}
use Rattle.matrix.specs.Entries.{not_finite_at, not_mirrored_at, finite_row, mirror_row}
use Rattle.matrix.proofs.SameEntries.{Line}

module _ (n : ℕ) (l : List Float) where
  abbrev InSquare : ℕ → ℕ → Type 0
  InSquare r c = (1 ≤ r) × (r ≤ n) × (1 ≤ c) × (c ≤ n)

  abbrev is_finite : ℕ → ℕ → Bool
  is_finite r c = finite (at n l r c)

  pub finite_searched : Searched InSquare is_finite 5 (finite_row n l)
  unfolding not_finite_at finite_row
  finite_searched =
      searched InSquare is_finite 5 n (λ r. n) (λ r c y. ((y.0, y.1), (y.2, y.3)))
      (λ r c y z. place InSquare is_finite 5 r c (y.0, y.1, z.0, z.1) (is_finite r c) refl)

  abbrev AboveDiagonal : ℕ → ℕ → Type 0
  AboveDiagonal r c = (1 ≤ r) × (r < c) × (c ≤ n)

  abbrev is_mirrored : ℕ → ℕ → Bool
  is_mirrored r c = same_bits (at n l r c) (at n l c r)

  mirror_place : (r c : ℕ) → Line n r → Line n c → (a : Bool) → ltb r c ≡ a
      → AtPlace AboveDiagonal is_mirrored 6 r c (cond a (cond (is_mirrored r c) (given tt) (refused 6 (r ∷ c ∷ []))) (given tt))
  mirror_place r c y z true e = place AboveDiagonal is_mirrored 6 r c (y.0, ltb-true r c e, z.1) (is_mirrored r c) refl
  mirror_place r c y z false e = fine (λ x. absurd (omega (arith, ltb-false r c e, x.1)))

  pub mirror_searched : Searched AboveDiagonal is_mirrored 6 (mirror_row n l)
  unfolding not_mirrored_at mirror_row
  mirror_searched =
      searched AboveDiagonal is_mirrored 6 n (λ r. n) (λ r c y. ((y.0, omega (arith, y.1, y.2)), (omega (arith, y.1), y.2)))
      (λ r c y z. mirror_place r c y z (ltb r c) refl)
