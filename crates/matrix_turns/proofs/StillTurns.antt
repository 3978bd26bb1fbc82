-- The turns of a still pair. Assumes nothing.
use Prim.Native.Nat.{ℕ}
use mathlib.Core.Path.{◌≡◌, refl, sym}
use mathlib.Core.Bool.{Bool, true, false, cond}
use borrow.Author.Tests.{eqb-true}
use lib.Dec.{eqb}
use lib.Ieee.{Float}
use Rattle.rotation.specs.declared.Parameters.TheVariants.{Still}
use Rattle.matrix_turns.specs.Turns.{turned_at, is_one, row_turn, column_turn, column_turn_all}

pub same_either : (b : Bool) {x y : Float} → y ≡ x → cond b x y ≡ x
same_either true e = refl
same_either false e = e

-- a still pair changes nothing
module _ (p q : ℕ) (A : ℕ → ℕ → Float) (r c : ℕ) where
  still_at : (i : ℕ) (x y z : Float) → (i ≡ p → z ≡ x) → (i ≡ q → z ≡ y) → turned_at Still p q i x y z ≡ z
  unfolding turned_at
  still_at i x y z f g = go (eqb i p) (eqb i q) refl refl
    where
      go : (a b : Bool) → eqb i p ≡ a → eqb i q ≡ b → cond a x (cond b y z) ≡ z
      go true b e h = sym (f (eqb-true _ _ e))
      go false true e h = sym (g (eqb-true _ _ h))
      go false false e h = refl

  pub still_rows : row_turn Still p q A r c ≡ A r c
  unfolding row_turn
  still_rows = same_either (is_one p q c) (still_at r (A p c) (A q c) (A r c) (λ e. rw e) (λ e. rw e))

  pub still_columns : column_turn Still p q A r c ≡ A r c
  unfolding column_turn
  still_columns = same_either (is_one p q r) (still_at c (A r p) (A r q) (A r c) (λ e. rw e) (λ e. rw e))

  pub still_all_columns : column_turn_all Still p q A r c ≡ A r c
  unfolding column_turn_all
  still_all_columns = still_at c (A r p) (A r q) (A r c) (λ e. rw e) (λ e. rw e)
