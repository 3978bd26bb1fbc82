-- One entry of a lent matrix, set. Assumes nothing.
use Prim.Native.Nat.{ℕ, ◌+◌, ◌-◌, ◌*◌, ◌≤◌, ◌<◌}
use mathlib.Core.Path.{◌≡◌, refl, sym, ap, ◌∙◌}
use mathlib.Core.Bool.{Bool, true, false, cond, ◌&&◌}
use mathlib.Core.List.{List}
use native.Mathlib.Omega.{arith}
use borrow.Author.Tests.{eqb-true, eqb-false}
use lib.Dec.{eqb}
use lib.ListN.{length, get_or, set, length-set}
use lib.Seq.{get_or-set_same, get_or-set_other}
use lib.Ieee.{Float, nan}
use Rattle.matrix.specs.Matrix.{at, flat, is_place}
use Rattle.matrix.proofs.EntryPlaces.{Place, are_place, place_within}
use Rattle.matrix.proofs.Flat.{index_one, at_offset, flat_is}
use Rattle.plain_pair.specs.Pair.{with_entry}

module _ (n p q : ℕ) (l : List Float) (there : is_place n p q (length l) ≡ true) where
  t : Place n p q (length l)
  t = are_place n p q (length l) there

  -- both are lines, and the list has the entry
  pub entry_within : ((p - 1) * n + (q - 1) < length l) × (1 ≤ p) × (1 ≤ q)
  entry_within = place_within n p q (length l) there

  here : (i j : ℕ) → i + 1 ≡ p → j + 1 ≡ q → i * n + j ≡ (p - 1) * n + (q - 1)
  here i j e f = let a : i ≡ p - 1 = omega arith in let b : j ≡ q - 1 = omega arith in rw (a, b)

  first_again : p - 1 + 1 ≡ p
  first_again = let a = t.row_above in omega arith

  second_again : q - 1 + 1 ≡ q
  second_again = let a = t.column_above in omega arith

  below : q - 1 < n
  below = let a = t.column_above in let b = t.column_within in omega arith

  pub place_set : (x : Float) → set l ((p - 1) * n + (q - 1)) x ≡ flat n (with_entry p q x (at n l))
  unfolding with_entry
  place_set x = flat_is n _ _ (length-set l _ x ∙ t.square) (λ i j hi hj. at_offset n _ i j ∙ go i j hj (eqb (i + 1) p) (eqb (j + 1) q) refl refl)
    where
      other : (i j : ℕ) → ¬ (i * n + j ≡ (p - 1) * n + (q - 1)) → get_or (set l ((p - 1) * n + (q - 1)) x) (i * n + j) nan ≡ at n l (i + 1) (j + 1)
      other i j h = get_or-set_other l _ (i * n + j) x nan h ∙ sym (at_offset n l i j)

      go : (i j : ℕ) → j < n → (a b : Bool) → eqb (i + 1) p ≡ a → eqb (j + 1) q ≡ b
          → get_or (set l ((p - 1) * n + (q - 1)) x) (i * n + j) nan ≡ cond (a && b) x (at n l (i + 1) (j + 1))
      go i j hj true true e f = rw (here i j (eqb-true _ _ e) (eqb-true _ _ f)) (get_or-set_same l _ x nan entry_within.0)
      go i j hj true false e f =
          other i j (λ z. eqb-false (j + 1) q f (ap (λ (k : ℕ). k + 1) (index_one n i j (p - 1) (q - 1) hj below z).1 ∙ second_again))
      go i j hj false b e f =
          other i j (λ z. eqb-false (i + 1) p e (ap (λ (k : ℕ). k + 1) (index_one n i j (p - 1) (q - 1) hj below z).0 ∙ first_again))

-- What the write of an entry is proved by.
pub ruleset entry_steps = (entry_within, place_set)
