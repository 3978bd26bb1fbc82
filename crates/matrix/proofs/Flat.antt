-- A matrix and its list. Assumes nothing.
use Prim.Native.Nat.{ℕ, zero, suc, ◌+◌, ◌-◌, ◌*◌, ◌/◌, ◌%◌, ◌<◌}
use mathlib.Core.Path.{◌≡◌, refl, sym, ap, ◌∙◌}
use mathlib.Core.Bool.{Bool, true, false}
use mathlib.Core.List.{List}
use native.Mathlib.Omega.{arith}
use native.Mathlib.Nat.{div-lt_iff_lt-mul, div-add-mod', mod-lt, zero-lt-suc}
use borrow.Author.Tests.{ltb-true, ltb-false}
use lib.Arith.{digits_lt, digits_div, digits_mod}
use lib.Dec.{T, ltb}
use lib.ListN.{length, get_or, get_or-eq_default}
use lib.Ieee.{Float, nan, binary64, fits}
use Rattle.lists.specs.Tabulate.{tabulate}
use Rattle.lists.proofs.Tabulated.{length_tabulate, get_d_tabulate, tabulated}
use Rattle.matrix.specs.Matrix.{at, flat}

-- an index has one row and one column
pub index_one : (n i j i' j' : ℕ) → j < n → j' < n → i * n + j ≡ i' * n + j' → (i ≡ i') × (j ≡ j')
index_one n i j i' j' h h' e = (
  sym (digits_div i h) ∙ ap (λ (k : ℕ). k / n) e ∙ digits_div i' h',
  sym (digits_mod i h) ∙ ap (λ (k : ℕ). k % n) e ∙ digits_mod i' h',
)

-- from offsets
pub at_offset : (n : ℕ) (l : List Float) (i j : ℕ) → at n l (i + 1) (j + 1) ≡ get_or l (i * n + j) nan
unfolding at
at_offset n l i j = let a : i + 1 - 1 ≡ i = omega arith in let b : j + 1 - 1 ≡ j = omega arith in rw (a, b)

pub flat_length : (n : ℕ) (A : ℕ → ℕ → Float) → length (flat n A) ≡ n * n
unfolding flat
flat_length n A = length_tabulate (n * n) _

pub at_flat : (n : ℕ) (A : ℕ → ℕ → Float) (i j : ℕ) → i < n → j < n → at n (flat n A) (i + 1) (j + 1) ≡ A (i + 1) (j + 1)
at_flat n A i j h k =
    at_offset n (flat n A) i j ∙ unfold flat in (get_d_tabulate (n * n) _ (i * n + j) nan (digits_lt h k) ∙ rw (digits_div i k, digits_mod i k))

-- an offset of the list is that of a row and a column
pub row_lt : (n k : ℕ) → k < n * n → k / n < n
row_lt zero k h = absurd (omega arith)
row_lt (suc n) k h = (div-lt_iff_lt-mul (zero-lt-suc n)).1 h

pub column_lt : (n k : ℕ) → k < n * n → k % n < n
column_lt zero k h = absurd (omega arith)
column_lt (suc n) k h = mod-lt k (zero-lt-suc n)

-- a list of n * n values with the entries of A is the list of A
pub flat_is : (n : ℕ) (A : ℕ → ℕ → Float) (l : List Float) → length l ≡ n * n
    → ((i j : ℕ) → i < n → j < n → at n l (i + 1) (j + 1) ≡ A (i + 1) (j + 1)) → l ≡ flat n A
unfolding flat
flat_is n A l e h =
    tabulated (n * n) _ l nan e
    (λ k b. ap (λ (x : ℕ). get_or l x nan) (sym (div-add-mod' k n)) ∙ sym (at_offset n l (k / n) (k % n)) ∙ h (k / n) (k % n) (row_lt n k b) (column_lt n k b))

-- the values of a matrix of values of binary64
pub flat_fits : (n : ℕ) (A : ℕ → ℕ → Float) → ((i j : ℕ) → T (fits binary64 (A i j))) → (k : ℕ) → T (fits binary64 (get_or (flat n A) k nan))
unfolding flat fits
flat_fits n A h k = go (ltb k (n * n)) refl
  where
    go : (b : Bool) → ltb k (n * n) ≡ b → T (fits binary64 (get_or (tabulate (n * n) (λ k. A (k / n + 1) (k % n + 1))) k nan))
    go true e = rw (get_d_tabulate (n * n) (λ k. A (k / n + 1) (k % n + 1)) k nan (ltb-true _ _ e)) (h _ _)
    go false e =
        rw (get_or-eq_default (tabulate (n * n) (λ k. A (k / n + 1) (k % n + 1))) nan {n = k}
        (rw (length_tabulate (n * n) (λ k. A (k / n + 1) (k % n + 1))) (ltb-false _ _ e))) tt
