-- Two blocks on one diagonal and +0 between them: what is known of both blocks is known of the whole. Assumes nothing.
use Prim.Native.Nat.{ℕ, ◌+◌, ◌-◌, ◌<◌}
use mathlib.Core.Path.{◌≡◌, refl}
use mathlib.Core.Bool.{Bool, true, false, cond}
use mathlib.Core.List.{List}
use native.Mathlib.Omega.{arith}
use borrow.Author.Tests.{ltb-true, ltb-false}
use lib.Dec.{T, ltb}
use lib.Ieee.{Float, binary64, fits, of_bits}
use lib.Ieee.Bits.{of_bits-fits}
use Rattle.float64.specs.Values.{plus_zero, finite}
use Rattle.matrix.proofs.SameEntries.{Line, Finite, Mirrored}
use Rattle.sheet.specs.Format.{pattern_in, entry_in}
use Rattle.sheet_join.specs.Join.{blocks}

zero_finite : finite plus_zero ≡ true
unfolding finite of_bits
zero_finite = refl

module _ (n m : ℕ) (A B : ℕ → ℕ → Float) where
  -- a line of the second block
  later : (i : ℕ) → Line (n + m) i → ltb n i ≡ true → Line m (i - n)
  later i h e = let w : n < i = ltb-true _ _ e in (omega arith, omega (arith, h.1))

  earlier : (i : ℕ) → Line (n + m) i → ltb n i ≡ false → Line n i
  earlier i h e = (h.0, ltb-false _ _ e)

  pub blocks_finite : Finite n A → Finite m B → Finite (n + m) (blocks n A B)
  unfolding blocks
  blocks_finite f g i j hi hj = go (ltb n i) (ltb n j) refl refl
    where
      go : (x y : Bool) → ltb n i ≡ x → ltb n j ≡ y → finite (cond x (cond y (B (i - n) (j - n)) plus_zero) (cond y plus_zero (A i j))) ≡ true
      go true true e z = g (i - n) (j - n) (later i hi e) (later j hj z)
      go true false e z = zero_finite
      go false true e z = zero_finite
      go false false e z = f i j (earlier i hi e) (earlier j hj z)

  pub blocks_mirrored : Mirrored n A → Mirrored m B → Mirrored (n + m) (blocks n A B)
  unfolding blocks
  blocks_mirrored f g i j hi hj = go (ltb n i) (ltb n j) refl refl
    where
      go : (x y : Bool) → ltb n i ≡ x → ltb n j ≡ y
          → cond x (cond y (B (i - n) (j - n)) plus_zero) (cond y plus_zero (A i j)) ≡ cond y (cond x (B (j - n) (i - n)) plus_zero) (cond x plus_zero (A j i))
      go true true e z = g (i - n) (j - n) (later i hi e) (later j hj z)
      go true false e z = refl
      go false true e z = refl
      go false false e z = f i j (earlier i hi e) (earlier j hj z)

-- ---- values of binary64
pub entry_fits : (b : List ℕ) (i j : ℕ) → T (fits binary64 (entry_in b i j))
unfolding entry_in
entry_fits b i j = go (ltb i j)
  where
    go : (c : Bool) → T (fits binary64 (cond c (of_bits binary64 (pattern_in b j i)) (of_bits binary64 (pattern_in b i j))))
    go true = of_bits-fits binary64 (pattern_in b j i)
    go false = of_bits-fits binary64 (pattern_in b i j)

pub blocks_fit : (b d : List ℕ) (n i j : ℕ) → T (fits binary64 (blocks n (entry_in b) (entry_in d) i j))
unfolding blocks
blocks_fit b d n i j = go (ltb n i) (ltb n j)
  where
    go : (x y : Bool) → T (fits binary64 (cond x (cond y (entry_in d (i - n) (j - n)) plus_zero) (cond y plus_zero (entry_in b i j))))
    go true true = entry_fits d (i - n) (j - n)
    go true false = of_bits-fits binary64 0
    go false true = of_bits-fits binary64 0
    go false false = entry_fits b i j
