-- Which processor is always still, in the words of the pages. Assumes nothing.
use Prim.Native.Nat.{ℕ, zero, suc, ◌-◌, ◌%◌, ◌≤◌, ◌<◌}
use mathlib.Core.Path.{◌≡◌, refl, sym, ap, ◌∙◌}
use mathlib.Core.Bool.{Bool, true, false, cond, ◌&&◌, ◌||◌}
use native.Mathlib.Nat.{mod-lt}
use native.Mathlib.Omega.{arith}
use borrow.Author.Tests.{ltb-true, ltb-false, le-ltb, ne_eqb}
use lib.Dec.{eqb, ltb}
use Rattle.sizes.specs.Sizes.{still_of}
use Rattle.rotation.specs.declared.Parameters.{Parameters}
use Rattle.rotation.specs.declared.Parameters.TheVariants.{Still}
use Rattle.runs.specs.Blocks.{ruled, ruled_exact}
use Rattle.claims.specs.Report.{FirstOfOdd}

module _ (n k : ℕ) where
  pub is_first : FirstOfOdd n k → k - 1 < still_of n
  is_first f = omega (arith, f.0, f.1)

  pub not_first : 1 ≤ k → ¬ FirstOfOdd n k → still_of n ≤ k - 1
  not_first h f = go (ltb (k - 1) (still_of n)) refl
    where
      go : (b : Bool) → ltb (k - 1) (still_of n) ≡ b → still_of n ≤ k - 1
      go true e = let l : k - 1 < still_of n = ltb-true _ _ e in absurd (f (omega arith, omega arith))
      go false e = ltb-false _ _ e

-- the test of both
below : (m i : ℕ) → m < 2 → ltb i m ≡ (eqb m 1 && eqb i 0)
below zero i h = le-ltb i 0 (omega arith)
below (suc zero) zero h = refl
below (suc zero) (suc i) h = le-ltb (suc i) 1 (omega arith) ∙ sym (ne_eqb (suc i) 0 (λ z. omega arith))
below (suc (suc m)) i h = absurd (omega arith)

pub ruled_exact_first : (n i : ℕ) (exact : Bool) → ruled_exact n i exact ≡ (eqb (n % 2) 1 && eqb i 0 || exact)
unfolding ruled_exact
ruled_exact_first n i exact = ap (λ (b : Bool). b || exact) (below (n % 2) i (mod-lt n (omega arith)))

pub ruled_first : (n i : ℕ) (P : Parameters) → ruled n i P ≡ cond (eqb (n % 2) 1 && eqb i 0) Still P
unfolding ruled
ruled_first n i P = ap (λ (b : Bool). cond b Still P) (below (n % 2) i (mod-lt n (omega arith)))
