-- How many digits a number has in decimal, and examples that are computed. Assumes nothing.
use Prim.Native.Nat.{ℕ, ◌+◌, ◌<◌, ◌≤◌}
use mathlib.Core.Path.{◌≡◌, refl, ap}
use mathlib.Core.Bool.{Bool, true, false, cond}
use mathlib.Core.List.{[], ◌∷◌}
use native.Mathlib.Omega.{arith}
use lib.Dec.{ltb}
use lib.ListN.{length, length-append}
use Rattle.text.specs.Text.{shown_from, decimal_of}
use Rattle.text.proofs.TextPieces.{shown_not}

-- the digits of the units that are shown, and the last
pub decimal_length : (n : ℕ) → length (decimal_of n)
    ≡ length (shown_from 10000 n) + (length (shown_from 1000 n) + (length (shown_from 100 n) + (length (shown_from 10 n) + 1)))
unfolding decimal_of
decimal_length n = simp length-append

at_most_one : (b : Bool) (x : ℕ) → length (cond b [] (x ∷ [])) ≤ 1
at_most_one true x = omega arith
at_most_one false x = omega arith

shown_most : (u n : ℕ) → length (shown_from u n) ≤ 1
unfolding shown_from
shown_most u n = at_most_one (ltb n u) _

shown_none : (u n : ℕ) → n < u → length (shown_from u n) ≡ 0
shown_none u n h = ap length (shown_not u n h)

module _ (n : ℕ) where
  pub at_most_five : length (decimal_of n) ≤ 5
  at_most_five = omega (arith, decimal_length n, shown_most 10000 n, shown_most 1000 n, shown_most 100 n, shown_most 10 n)

  pub at_most_four : n < 10000 → length (decimal_of n) ≤ 4
  at_most_four h = omega (arith, decimal_length n, shown_none 10000 n h, shown_most 1000 n, shown_most 100 n, shown_most 10 n)

-- ---- computed
pub computed : (decimal_of 0 ≡ 48 ∷ [])
    × (decimal_of 9 ≡ 57 ∷ [])
    × (decimal_of 10 ≡ 49 ∷ 48 ∷ [])
    × (decimal_of 255 ≡ 50 ∷ 53 ∷ 53 ∷ [])
    × (decimal_of 256 ≡ 50 ∷ 53 ∷ 54 ∷ [])
    × (decimal_of 9999 ≡ 57 ∷ 57 ∷ 57 ∷ 57 ∷ [])
    × (decimal_of 10000 ≡ 49 ∷ 48 ∷ 48 ∷ 48 ∷ 48 ∷ [])
    × (decimal_of 65535 ≡ 54 ∷ 53 ∷ 53 ∷ 51 ∷ 53 ∷ [])
unfolding decimal_of shown_from
computed = (refl, refl, refl, refl, refl, refl, refl, refl)
