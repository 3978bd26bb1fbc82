-- Block matrices of the same blocks, and of three blocks. Assumes nothing.
use Prim.Native.Nat.{ℕ, ◌+◌, ◌-◌, ◌<◌, ◌≤◌}
use mathlib.Core.Path.{◌≡◌, refl, fun_ext}
use mathlib.Core.Bool.{Bool, true, false, cond, ◌&&◌}
use native.Mathlib.Omega.{arith}
use borrow.Author.Tests.{lt-ltb, le-ltb, ltb-true, ltb-false}
use lib.Dec.{ltb}
use lib.Ieee.{Float}
use Rattle.float64.specs.Values.{plus_zero}
use Rattle.matrix.proofs.SameEntries.{Same}
use Rattle.sheet_join.specs.Join.{blocks}

pub blocks_same : (n m : ℕ) {A A' B B' : ℕ → ℕ → Float} → Same n A A' → Same m B B' → Same (n + m) (blocks n A B) (blocks n A' B')
unfolding blocks
blocks_same n m {A} {A'} {B} {B'} first second i j hi hj = go (ltb n i) (ltb n j) refl refl
  where
    go : (x y : Bool) → ltb n i ≡ x → ltb n j ≡ y
        → cond x (cond y (B (i - n) (j - n)) plus_zero) (cond y plus_zero (A i j)) ≡ cond x (cond y (B' (i - n) (j - n)) plus_zero) (cond y plus_zero (A' i j))
    go true true e f =
        let u : n < i = ltb-true _ _ e in
        let v : n < j = ltb-true _ _ f in
        second (i - n) (j - n) (omega arith, omega arith) (omega arith, omega arith)
    go true false e f = refl
    go false true e f = refl
    go false false e f = first i j (hi.0, ltb-false _ _ e) (hj.0, ltb-false _ _ f)

-- ---- three blocks
module _ (n m : ℕ) where
  -- a line is one of the third block where it is none of the first, and then none of the second
  third : (i : ℕ) → ltb (n + m) i ≡ (ltb n i && ltb m (i - n))
  third i = go (ltb n i) (ltb m (i - n)) refl refl
    where
      go : (x y : Bool) → ltb n i ≡ x → ltb m (i - n) ≡ y → ltb (n + m) i ≡ (x && y)
      go true true e f = let v : m < i - n = ltb-true _ _ f in lt-ltb (n + m) i (omega arith)
      go true false e f = let v : i - n ≤ m = ltb-false _ _ f in le-ltb (n + m) i (omega arith)
      go false y e f = let u : i ≤ n = ltb-false _ _ e in le-ltb (n + m) i (omega arith)

  again_at : (A B C : ℕ → ℕ → Float) (i j : ℕ) → blocks (n + m) (blocks n A B) C i j ≡ blocks n A (blocks m B C) i j
  unfolding blocks
  again_at A B C i j =
      let e : i - (n + m) ≡ i - n - m = omega arith in
      let f : j - (n + m) ≡ j - n - m = omega arith in
      rw (third i, third j, e, f) (go (ltb n i) (ltb m (i - n)) (ltb n j) (ltb m (j - n)) _ _ _)
    where
      go : (x y x' y' : Bool) (p q r : Float)
          → cond (x && y) (cond (x' && y') r plus_zero) (cond (x' && y') plus_zero (cond x (cond x' q plus_zero) (cond x' plus_zero p)))
          ≡ cond x (cond x' (cond y (cond y' r plus_zero) (cond y' plus_zero q)) plus_zero) (cond x' plus_zero p)
      go true true true y' p q r = refl
      go true true false y' p q r = refl
      go true false true true p q r = refl
      go true false true false p q r = refl
      go true false false y' p q r = refl
      go false y true true p q r = refl
      go false y true false p q r = refl
      go false y false y' p q r = refl

  pub blocks_again : (A B C : ℕ → ℕ → Float) → blocks (n + m) (blocks n A B) C ≡ blocks n A (blocks m B C)
  blocks_again A B C = fun_ext (λ i. fun_ext (λ j. again_at A B C i j))
