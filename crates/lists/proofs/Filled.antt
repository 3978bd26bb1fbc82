-- A list that a loop fills, from its first element or a later one on. Assumes nothing.
use Prim.Native.Nat.{ℕ, ◌+◌, ◌<◌, ◌≤◌, zero-le}
use mathlib.Core.Path.{◌≡◌, refl, ◌∙◌}
use mathlib.Core.Bool.{Bool, true, false}
use mathlib.Core.List.{List}
use native.Mathlib.Omega.{arith}
use borrow.Author.Tests.{eqb-true, eqb-false}
use lib.Dec.{eqb}
use lib.ListN.{length, get_or, set, length-set}
use lib.Seq.{get_or-set_same, get_or-set_other}
use Rattle.lists.specs.Tabulate.{tabulate}
use Rattle.lists.proofs.Tabulated.{tabulated}

-- A list of n elements that are what the formula says from element a up to k; z stands for an element that there is not.
pub record FilledFrom {A : Type 0} (a : ℕ) (z : A) (f : ℕ → A) (n k : ℕ) (l : List A) : Type 0 where
  pub long : length l ≡ n
  pub filled : (i : ℕ) → a ≤ i → i < k → get_or l i z ≡ f i

-- The first k are.
abbrev pub Filled : {A : Type 0} → A → (ℕ → A) → ℕ → ℕ → List A → Type 0
Filled z f n k l = FilledFrom 0 z f n k l

module _ {A : Type 0} {z : A} {f : ℕ → A} {n : ℕ} where
  module _ {a : ℕ} where
    pub filled_none : (l : List A) → length l ≡ n → FilledFrom a z f n a l
    filled_none l e = record { long = e; filled = λ i b h. absurd (omega arith) }

    pub filled_next : (k : ℕ) (l : List A) (x : A) → FilledFrom a z f n k l → k < n → x ≡ f k → FilledFrom a z f n (k + 1) (set l k x)
    filled_next k l x h below e = record { long = length-set l k x ∙ h.long; filled = λ i b o. go i b o (eqb i k) refl }
      where
        inside : k < length l
        inside = let w = h.long in omega arith

        go : (i : ℕ) → a ≤ i → i < k + 1 → (b : Bool) → eqb i k ≡ b → get_or (set l k x) i z ≡ f i
        go i b o true y = let w : i ≡ k = eqb-true _ _ y in rw w (get_or-set_same l k x z inside ∙ e)
        go i b o false y = let w : ¬ (i ≡ k) = eqb-false _ _ y in get_or-set_other l k i x z w ∙ h.filled i b (omega arith)

  pub filled_all : (k : ℕ) (l : List A) → Filled z f n k l → n ≤ k → l ≡ tabulate n f
  filled_all k l h o = tabulated n f l z h.long (λ i b. h.filled i zero-le (omega arith))
