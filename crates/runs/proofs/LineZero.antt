-- Line 0 of an odd order: the matrices at the start, and the processor that has it and is always still. Assumes nothing.
use Prim.Native.Nat.{ℕ, ◌≤◌, ◌<◌}
use mathlib.Core.Path.{◌≡◌, refl, sym}
use mathlib.Core.Bool.{Bool, true, false, cond, ◌||◌}
use native.Mathlib.Omega.{arith}
use borrow.Author.Tests.{eq-eqb, ne_eqb, lt-ltb, le-ltb}
use lib.Dec.{eqb, ltb}
use lib.Ieee.{Float}
use Rattle.float64.specs.Values.{plus_zero}
use Rattle.sizes.specs.Sizes.{still_of}
use Rattle.rotation.specs.declared.Parameters.{Parameters}
use Rattle.rotation.specs.declared.Parameters.TheVariants.{Still}
use Rattle.rotation.specs.declared.Found.{Found}
use Rattle.rotation.specs.Rotation.{of_pair, of_tangent, sent}
use Rattle.rotation.proofs.ParameterCases.{still_zero, received_pair}
use Rattle.runs.specs.State.{bordered}
use Rattle.runs.specs.Blocks.{ruled, ruled_exact, ruled_found}

-- ---- the matrices at the start
module _ (A : ℕ → ℕ → Float) where
  pub bordered_real : (r c : ℕ) → 1 ≤ r → 1 ≤ c → bordered A r c ≡ A r c
  unfolding bordered
  bordered_real r c a b = rw (ne_eqb r 0 (λ z. omega arith), ne_eqb c 0 (λ z. omega arith))

  pub row_0 : (r c : ℕ) → r ≡ 0 → plus_zero ≡ bordered A r c
  unfolding bordered
  row_0 r c e = rw (eq-eqb r 0 e)

  pub column_0 : (r c : ℕ) → c ≡ 0 → plus_zero ≡ bordered A r c
  unfolding bordered
  column_0 r c e = go (eqb r 0)
    where
      go : (b : Bool) → plus_zero ≡ cond (b || eqb c 0) plus_zero (A r c)
      go true = refl
      go false = rw (eq-eqb c 0 e)

-- ---- the processors
module _ (n i : ℕ) (P : Parameters) where
  pub always_still : i < still_of n → Still ≡ ruled n i P
  unfolding ruled
  always_still h = rw (lt-ltb i (still_of n) h)

  pub not_still : still_of n ≤ i → P ≡ ruled n i P
  unfolding ruled
  not_still h = rw (le-ltb i (still_of n) h)

module _ (n i : ℕ) (exact : Bool) where
  pub always_exact : i < still_of n → true ≡ ruled_exact n i exact
  unfolding ruled_exact
  always_exact h = rw (lt-ltb i (still_of n) h)

  pub own_exact : still_of n ≤ i → exact ≡ ruled_exact n i exact
  unfolding ruled_exact
  own_exact h = rw (le-ltb i (still_of n) h)

module _ (n i : ℕ) (f : Found) where
  pub always_found : i < still_of n → record { parameters = Still; exact = true } ≡ ruled_found n i f
  always_found h = rw (← always_still n i f.parameters h, ← always_exact n i f.exact h)

  pub own_found : still_of n ≤ i → f ≡ ruled_found n i f
  own_found h = rw (← not_still n i f.parameters h, ← own_exact n i f.exact h)

-- a tile that receives the tangent turns as its processor does
pub received_ruled : (n i : ℕ) (a d b : Float) → of_tangent (sent (ruled n i (of_pair a d b))) ≡ ruled n i (of_pair a d b)
unfolding ruled
received_ruled n i a d b = go (ltb i (still_of n))
  where
    go : (t : Bool) → of_tangent (sent (cond t Still (of_pair a d b))) ≡ cond t Still (of_pair a d b)
    go true = sym still_zero
    go false = received_pair a d b
