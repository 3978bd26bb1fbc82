-- Matrices of order n with the same entries. Assumes nothing.
use Prim.Native.Nat.{ℕ, ◌+◌, ◌-◌, ◌*◌, ◌≤◌, ◌<◌}
use mathlib.Core.Path.{◌≡◌, refl, ap, ◌∙◌}
use mathlib.Core.Bool.{true}
use mathlib.Core.List.{List}
use native.Mathlib.Omega.{arith}
use lib.ListN.{length}
use lib.Ieee.{Float}
use Rattle.float64.specs.Values.{finite}
use Rattle.matrix.specs.Matrix.{at, flat}
use Rattle.matrix.proofs.Flat.{at_flat, flat_is, flat_length}

-- p is one of the lines 1 to n
abbrev pub Line : ℕ → ℕ → Type 0
Line n p = (1 ≤ p) × (p ≤ n)

abbrev pub Same : ℕ → (ℕ → ℕ → Float) → (ℕ → ℕ → Float) → Type 0
Same n A B = (r c : ℕ) → Line n r → Line n c → A r c ≡ B r c

-- The entries at the lines 1 to n are finite.
abbrev pub Finite : ℕ → (ℕ → ℕ → Float) → Type 0
Finite n A = (r c : ℕ) → Line n r → Line n c → finite (A r c) ≡ true

-- The entries at the lines 1 to n are equal to those across the diagonal.
abbrev pub Mirrored : ℕ → (ℕ → ℕ → Float) → Type 0
Mirrored n A = (r c : ℕ) → Line n r → Line n c → A r c ≡ A c r

module _ (n : ℕ) where
  offset : (i : ℕ) → i < n → Line n (i + 1)
  offset i h = (omega arith, omega arith)

  -- a list of the matrix A, read again
  pub read_again : (A : ℕ → ℕ → Float) → Same n (at n (flat n A)) A
  read_again A r c hr hc =
      let e : r - 1 + 1 ≡ r = omega arith in
      let f : c - 1 + 1 ≡ c = omega arith in
      rw (e, f) at (at_flat n A (r - 1) (c - 1) (omega arith) (omega arith))

  pub flat_same : (A B : ℕ → ℕ → Float) → Same n A B → flat n A ≡ flat n B
  flat_same A B h = flat_is n B (flat n A) (flat_length n A) (λ i j hi hj. at_flat n A i j hi hj ∙ h (i + 1) (j + 1) (offset i hi) (offset j hj))

  pub flat_again : (l : List Float) → length l ≡ n * n → l ≡ flat n (at n l)
  flat_again l e = flat_is n (at n l) l e (λ i j hi hj. refl)

  -- what is done to A is done to the list of A
  pub one_more : {l l' : List Float} (A : ℕ → ℕ → Float) (F : (ℕ → ℕ → Float) → ℕ → ℕ → Float)
      → ((A B : ℕ → ℕ → Float) → Same n A B → Same n (F A) (F B)) → l ≡ flat n A → l' ≡ flat n (F (at n l)) → l' ≡ flat n (F A)
  one_more A F keeps e f = f ∙ flat_same _ _ (keeps _ _ (λ r c hr hc. ap (λ (l : List Float). at n l r c) e ∙ read_again A r c hr hc))
