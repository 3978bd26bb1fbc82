-- A test of a list's elements as a test of the numbers below its length. Assumes nothing.
use Prim.Native.Nat.{ℕ, zero, suc, ◌+◌, ◌<◌}
use mathlib.Core.Path.{◌≡◌, refl, sym, ap, ◌∙◌}
use mathlib.Core.Bool.{Bool, ◌||◌}
use mathlib.Core.List.{List, [], ◌∷◌}
use native.Mathlib.Omega.{arith}
use lib.ListN.{length, get_or}
use Rattle.std.specs.List.{list_any, range_with_len}
use Rattle.std.proofs.lemmas.List.FromFn.{length-range_with_len, get_or-range_with_len}
use Rattle.std.proofs.Math.Bool.{or_assoc, or-false}
use Rattle.lists.specs.Bounded.{any}
use Rattle.lists.proofs.Bounded.{any_within}

-- the first number of a range apart
any_front : (n : ℕ) (f : ℕ → Bool) → any (suc n) f ≡ (f 0 || any n (λ k. f (suc k)))
unfolding any
any_front zero f = sym (or-false (f 0))
any_front (suc n) f = rw (any_front n f) (or_assoc (f 0) (any n (λ k. f (suc k))) (f (suc n)))

-- two tests that agree below n
pub any_same : (n : ℕ) (f g : ℕ → Bool) → ((k : ℕ) → k < n → f k ≡ g k) → any n f ≡ any n g
any_same n f g h = any_within n n f g (omega arith) h (λ k o l. absurd (omega arith))

pub any_listed : {X : Type 0} (d : X) (p : X → Bool) (xs : List X) → list_any p xs ≡ any (length xs) (λ k. p (get_or xs k d))
any_listed d p [] = unfold any in refl
any_listed d p (x ∷ xs) = rw (any_front (length xs) (λ k. p (get_or (x ∷ xs) k d)), any_listed d p xs) refl

-- over a range
pub any_ranged : (n : ℕ) (f : ℕ → Bool) → list_any f (range_with_len 0 n) ≡ any n f
any_ranged n f = any_listed 0 f (range_with_len 0 n) ∙ rw (length-range_with_len 0 n) (any_same n _ f same)
  where
    same : (k : ℕ) → k < n → f (get_or (range_with_len 0 n) k 0) ≡ f k
    same k h = let z : 0 + k ≡ k = omega arith in ap f (get_or-range_with_len 0 n k 0 h ∙ z)
