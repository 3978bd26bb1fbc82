-- What is answered and left by a call that its tests refuse, or else has an outcome of its own. Assumes nothing.
use Prim.Native.Nat.{ℕ}
use mathlib.Core.Path.{◌≡◌, refl, sym, ap, ◌∙◌}
use mathlib.Core.List.{List}
use Rattle.refusal.specs.Answers.{Answered, given, refused, giving, value_or, unless_refused}
use Rattle.refusal.proofs.FirstRefusal.{refused_given}

-- ---- answers with another value
pub giving_itself : (a : Answered Unit) → giving tt a ≡ a
giving_itself (given tt) = refl
giving_itself (refused k values) = refl

pub giving_refused : {A B : Type 0} (x : B) (a : Answered A) {k : ℕ} {values : List ℕ} → giving x a ≡ refused k values → a ≡ refused k values
giving_refused x (given y) e = refused_given (sym e)
giving_refused x (refused i ys) e = cc

pub giving_given : {A B : Type 0} (x y : B) (a : Answered A) → giving x a ≡ given y → y ≡ x
giving_given x y (given z) e = sym (ap (λ (b : Answered _). value_or b x) e)
giving_given x y (refused k values) e = refused_given e

pub giving_was : {B : Type 0} (x y : B) (a : Answered Unit) → giving x a ≡ given y → (a ≡ given tt) × (y ≡ x)
giving_was x y (given tt) e = (refl, giving_given x y (given tt) e)
giving_was x y (refused k values) e = refused_given e

pub same_number : {A : Type 0} {i k : ℕ} {ys zs : List ℕ} → ◌≡◌ {A = Answered A} (refused i ys) (refused k zs) → i ≡ k
same_number e = cc

-- ---- an outcome has an answer: that of o gives x, and what a refusal leaves answers that refusal
module _ {A B O : Type 0} (answer : O → Answered B) (o : O) (left : Answered B → O) {x : B} (gives : answer o ≡ given x)
    (refuses : (b : Answered B) → answer (left b) ≡ b) where
  pub outcome_answers : (a : Answered A) → answer (unless_refused a o left) ≡ giving x a
  outcome_answers (given y) = gives
  outcome_answers (refused k values) = refuses (refused k values)

  pub outcome_left : (a : Answered A) {k : ℕ} {values : List ℕ} → answer (unless_refused a o left) ≡ refused k values
      → unless_refused a o left ≡ left (refused k values)
  outcome_left (given y) e = refused_given (sym e ∙ gives)
  outcome_left (refused i ys) e = ap left (sym (refuses (refused i ys)) ∙ e)
