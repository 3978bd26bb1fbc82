-- The identity, and results that are cleared. Assumes nothing.
use Prim.Native.Nat.{ℕ, ◌*◌}
use mathlib.Core.Path.{◌≡◌, refl, sym, ◌∙◌}
use mathlib.Core.Bool.{Bool, true, false}
use mathlib.Core.List.{List}
use borrow.Author.Tests.{eqb-true, eqb-false, eq-eqb, ne_eqb}
use lib.Dec.{eqb}
use lib.Ieee.{Float}
use Rattle.refusal.specs.Answers.{refused_by}
use Rattle.refusal.specs.declared.Refusal.TheVariants.{Spoiled}
use Rattle.float64.specs.Values.{plus_zero, one}
use Rattle.lists.specs.Tabulate.{tabulate}
use Rattle.matrix.specs.Matrix.{flat}
use Rattle.runs.specs.State.{identity, zeros}
use Rattle.runs.specs.Outcome.{outcome}

pub cleared : (n : ℕ) {d : ℕ} {l : List Float} → d ≡ n * n → l ≡ tabulate d (λ k. plus_zero) → l ≡ zeros n
unfolding zeros flat
cleared n long e = rw (← long) e

pub spoiled_outcome : {A : Type 0} (n : ℕ) {l e : List Float} → l ≡ zeros n → e ≡ zeros n
    → outcome {A = A} (refused_by Spoiled) l e ≡ outcome (refused_by Spoiled) (zeros n) (zeros n)
spoiled_outcome n f g = rw (f, g)

module _ (i j : ℕ) where
  pub on_diagonal_lem : i ≡ j → one ≡ identity i j
  unfolding identity
  on_diagonal_lem e = rw (eq-eqb i j e)

  pub off_diagonal : ¬ (i ≡ j) → plus_zero ≡ identity i j
  unfolding identity
  off_diagonal e = rw (ne_eqb i j e)

pub identity_mirrored : (r c : ℕ) → identity c r ≡ identity r c
identity_mirrored r c = go (eqb r c) refl
  where
    go : (b : Bool) → eqb r c ≡ b → identity c r ≡ identity r c
    go true e = let z : r ≡ c = eqb-true _ _ e in sym (on_diagonal_lem c r (sym z)) ∙ on_diagonal_lem r c z
    go false e = let z : ¬ (r ≡ c) = eqb-false _ _ e in sym (off_diagonal c r (λ y. z (sym y))) ∙ off_diagonal r c z
