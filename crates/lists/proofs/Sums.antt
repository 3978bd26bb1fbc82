-- Sums over the numbers below a bound. Assumes nothing.
use Prim.Native.Nat.{ℕ, zero, suc, ◌+◌, ◌*◌, ◌≤◌, ◌<◌}
use mathlib.Core.Path.{◌≡◌, refl, ◌∙◌}
use mathlib.Core.Bool.{Bool, true, false, not, cond}
use native.Mathlib.Omega.{arith}
use native.Mathlib.Nat.{add-zero, add-suc, suc-mul, mul-zero}
use borrow.Author.Tests.{ltb-true, ltb-false, eqb-true, eqb-false, eq-eqb, lt-ltb, le-ltb}
use lib.Dec.{ltb, eqb}
use Rattle.lists.specs.Bounded.{count, any, total}
use Rattle.lists.proofs.Bounded.{sum_none}

pub total_below : (f g : ℕ → ℕ) (n : ℕ) → ((i : ℕ) → i < n → f i ≡ g i) → total n f ≡ total n g
unfolding total
total_below f g zero e = refl
total_below f g (suc n) e = rw (e n (omega arith), total_below f g n (λ i l. e i (omega arith)))

-- a sum of counts is 0 where none passes
pub total_any : (g : ℕ → ℕ) (h : ℕ → Bool) → ((i : ℕ) → eqb (g i) 0 ≡ not (h i)) → (n : ℕ) → eqb (total n g) 0 ≡ not (any n h)
unfolding total any
total_any g h e zero = eq-eqb 0 0 refl
total_any g h e (suc n) = sum_none (total n g) (g n) (any n h) (h n) (total_any g h e n) (e n)

module _ (f : ℕ → ℕ) (x : ℕ) where
  -- n terms alike
  pub total_same : (n : ℕ) → ((i : ℕ) → i < n → f i ≡ x) → total n f ≡ n * x
  unfolding total
  total_same zero e = omega arith
  total_same (suc n) e = rw (total_same n (λ i l. e i (omega arith)), e n (omega arith), suc-mul n x)

  -- terms alike but for one, which is 0: what is left out is put back below it
  but_one : (k n : ℕ) → ((i : ℕ) → i < n → f i ≡ cond (eqb k i) 0 x) → total n f + cond (ltb k n) x 0 ≡ n * x
  unfolding total
  but_one k zero e = rw (le-ltb k 0 (omega arith)) (omega arith)
  but_one k (suc n) e = go (ltb k n) (eqb k n) refl refl (but_one k n (λ i l. e i (omega arith)))
    where
      go : (a b : Bool) → ltb k n ≡ a → eqb k n ≡ b → total n f + cond a x 0 ≡ n * x → total n f + f n + cond (ltb k (suc n)) x 0 ≡ suc n * x
      go true true y z h = absurd (let w : k < n = ltb-true _ _ y in let u : k ≡ n = eqb-true _ _ z in omega arith)
      go true false y z h = let w : k < n = ltb-true _ _ y in rw (e n (omega arith), z, lt-ltb k (suc n) (omega arith), suc-mul n x) (omega arith)
      go false true y z h = let u : k ≡ n = eqb-true _ _ z in rw (e n (omega arith), z, lt-ltb k (suc n) (omega arith), suc-mul n x) (omega arith)
      go false false y z h =
          let w : n ≤ k = ltb-false _ _ y in
          let u : ¬ (k ≡ n) = eqb-false _ _ z in
          rw (e n (omega arith), z, le-ltb k (suc n) (omega arith), suc-mul n x) (omega arith)

  pub total_but_one : (k n : ℕ) → k < suc n → ((i : ℕ) → i < suc n → f i ≡ cond (eqb k i) 0 x) → total (suc n) f ≡ n * x
  total_but_one k n l e =
      let h : total (suc n) f + cond (ltb k (suc n)) x 0 ≡ suc n * x = but_one k (suc n) e in
      let g : total (suc n) f + x ≡ n * x + x = rw (lt-ltb k (suc n) l, suc-mul n x) at h in
      omega arith

-- a sum in two parts
pub total_parts : (f : ℕ → ℕ) (a b : ℕ) → total (a + b) f ≡ total a f + total b (λ i. f (a + i))
unfolding total
total_parts f a zero = rw (add-zero a) (omega arith)
total_parts f a (suc b) = rw (add-suc a b, total_parts f a b) (omega arith)

-- terms of b at most
pub total_most : (f : ℕ → ℕ) (b n : ℕ) → ((i : ℕ) → i < n → f i ≤ b) → total n f ≤ n * b
unfolding total
total_most f b zero h = omega arith
total_most f b (suc n) h =
    let few : total n f ≤ n * b = total_most f b n (λ i l. h i (omega arith)) in
    let last : f n ≤ b = h n (omega arith) in
    rw (suc-mul n b) (omega arith)

-- ---- sums exchanged
total_plus : (f g : ℕ → ℕ) (n : ℕ) → total n (λ i. f i + g i) ≡ total n f + total n g
unfolding total
total_plus f g zero = refl
total_plus f g (suc n) = rw (total_plus f g n) (omega arith)

total_ones : (f : ℕ → Bool) (n : ℕ) → total n (λ i. cond (f i) 1 0) ≡ count f n
unfolding total count
total_ones f zero = refl
total_ones f (suc n) = rw (total_ones f n) (omega arith)

-- how many of the first k numbers and the first n pass a test together, summed by the latter or by the former
pub total_exchanged : (f : ℕ → ℕ → Bool) (n k : ℕ) → total n (λ i. count (λ s. f s i) k) ≡ total k (λ s. count (f s) n)
unfolding total count
total_exchanged f n zero = total_same (λ i. 0) 0 n (λ i l. refl) ∙ mul-zero n
total_exchanged f n (suc k) =
    total_plus (λ i. cond (f k i) 1 0) (λ i. count (λ s. f s i) k) n
    ∙ rw (total_ones (f k) n, total_exchanged f n k) (omega arith)
