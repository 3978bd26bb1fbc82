-- Tables: which answer is the first refusal, and what is known where there is none. Assumes nothing.
use Prim.Native.Nat.{ℕ, zero, suc, ◌+◌, ◌≤◌, ◌<◌}
use mathlib.Core.Path.{◌≡◌, refl, sym, ap, ◌∙◌}
use mathlib.Core.Bool.{Bool, true, false, cond, true≢false}
use mathlib.Core.List.{List, [], ◌∷◌, ◌++◌}
use mathlib.Core.Logic.{⊎_elim}
use native.Mathlib.Omega.{arith}
use native.Mathlib.Nat.{le_of_suc-le-suc, eq-or-lt_of_le}
use borrow.Author.Tests.{ltb-true, ltb-false}
use lib.Dec.{ltb}
use Rattle.refusal.specs.declared.Refusal.{Refusal}
use Rattle.refusal.specs.Answers.{Answered, given, refused, or_else, row, table, first}

abbrev is_given : {A : Type 0} → Answered A → Bool
is_given (given x) = true
is_given (refused k values) = false

pub refused_given : {A B : Type 0} {k : ℕ} {values : List ℕ} {x : B} → ◌≡◌ {A = Answered B} (refused k values) (given x) → A
refused_given e = absurd (true≢false (sym (ap is_given e)))

-- neither of two answers is a refusal
pub both_given : (a b : Answered Unit) → or_else a b ≡ given tt → (a ≡ given tt) × (b ≡ given tt)
both_given (given tt) b e = (refl, e)
both_given (refused k values) b e = refused_given e

-- ---- rows
pub row_given : (b : Bool) (r : Refusal) → row b r ≡ given tt → b ≡ false
row_given true r e = refused_given e
row_given false r e = refl

pub of_test : (b : Bool) (a : Answered Unit) → (a ≡ given tt → b ≡ true) → cond b (given tt) a ≡ given tt → b ≡ true
of_test true a f e = refl
of_test false a f e = f e

pub else_else : (a b c : Answered Unit) → or_else (or_else a b) c ≡ or_else a (or_else b c)
else_else (given x) b c = refl
else_else (refused k values) b c = refl

-- the last row
pub else_none : (a : Answered Unit) → or_else a (given tt) ≡ a
else_none (given x) = refl
else_none (refused k values) = refl

-- a table under another
pub table_joined : (rows more : List (Answered Unit)) → table (rows ++ more) ≡ or_else (table rows) (table more)
table_joined [] more = refl
table_joined (a ∷ rows) more = ap (or_else a) (table_joined rows more) ∙ sym (else_else a (table rows) (table more))

-- ---- the first of many, as a loop finds it
module _ (g : ℕ → Answered Unit) where
  pub first_none : first 0 g ≡ given tt
  unfolding first
  first_none = refl

  next : (i : ℕ) → first i g ≡ given tt → g (suc i) ≡ given tt → first (suc i) g ≡ given tt
  unfolding first
  next i e h = rw e h

  pub first_more : (i : ℕ) → first i g ≡ given tt → g (i + 1) ≡ given tt → first (i + 1) g ≡ given tt
  first_more i e h = let s : i + 1 ≡ suc i = omega arith in rw s (next i e (ap g (sym s) ∙ h))

  -- a refusal ends the search
  pub first_found : (x : ℕ) (values : List ℕ) (n i : ℕ) → i < n → first i g ≡ given tt → g (i + 1) ≡ refused x values → first n g ≡ refused x values
  unfolding first
  first_found x values zero i h f v = absurd (omega arith)
  first_found x values (suc n) i h f v =
      let s : i + 1 ≡ suc i = omega arith in
      ⊎_elim
      (λ u. rw (← u, f) (ap g (sym s) ∙ v))
      (λ u. rw (first_found x values n i u f v))
      (eq-or-lt_of_le (le_of_suc-le-suc h))

  pub first_fine : (n : ℕ) → ((k : ℕ) → k < n → g (k + 1) ≡ given tt) → first n g ≡ given tt
  unfolding first
  first_fine zero h = refl
  first_fine (suc n) h = let s : n + 1 ≡ suc n = omega arith in next n (first_fine n (λ k b. h k (omega arith))) (ap g (sym s) ∙ h n (omega arith))

-- none of them is a refusal
pub each_given : (g : ℕ → Answered Unit) (n : ℕ) → first n g ≡ given tt → (r : ℕ) → (1 ≤ r) × (r ≤ n) → g r ≡ given tt
unfolding first
each_given g zero e r h = absurd (omega arith)
each_given g (suc n) e r h = let w = both_given (first n g) (g (suc n)) e in go (ltb r (suc n)) refl w (λ k. each_given g n w.0 r k)
  where
    go : (b : Bool) → ltb r (suc n) ≡ b → (first n g ≡ given tt) × (g (suc n) ≡ given tt) → ((1 ≤ r) × (r ≤ n) → g r ≡ given tt) → g r ≡ given tt
    go true z w below = let o : r < suc n = ltb-true _ _ z in below (h.0, omega arith)
    go false z w below = let o : suc n ≤ r = ltb-false _ _ z in let e : r ≡ suc n = omega (arith, h.1) in rw e w.1
