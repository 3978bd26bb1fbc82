-- What stands in each row and column after the turn of a pair. Assumes nothing.
use Prim.Native.Nat.{ℕ}
use mathlib.Core.Path.{◌≡◌, refl, sym, ◌∙◌}
use mathlib.Core.Bool.{Bool, true, false, cond, ◌||◌, ◌&&◌}
use mathlib.Core.Logic.{◌≢◌}
use borrow.Author.Tests.{eqb-true, eqb-false, eq-eqb, ne_eqb}
use lib.Dec.{eqb}
use lib.Ieee.{Float}
use Rattle.float64.specs.Values.{plus_zero}
use Rattle.lists.proofs.Bounded.{or_false}
use Rattle.systolic.specs.Blocks.{Block}
use Rattle.systolic.specs.Sequential.{pair_block, place}
use Rattle.rotation.specs.declared.Parameters.{Parameters}
use Rattle.rotation.specs.declared.Parameters.TheVariants.{Still}
use Rattle.rotation.specs.Rotation.{diagonal_of, turn_of}
use Rattle.matrix_turns.specs.Turns.{turned_at, is_one, row_turn, column_turn, row_turn_all, column_turn_all}
use Rattle.matrix_turns.proofs.StillTurns.{same_either}
use Rattle.runs.specs.Blocks.{matrix_block}
use Rattle.plain_pair.specs.Pair.{with_entry, pair_turned}

-- a line is the first of a pair, or the second, or neither
pub data Spot (p q r : ℕ) : Type 0 where
  first : r ≡ p → Spot p q r
  second : r ≡ q → Spot p q r
  neither : r ≢ p → r ≢ q → Spot p q r

pub spot : (p q r : ℕ) → Spot p q r
spot p q r = go (eqb r p) (eqb r q) refl refl
  where
    go : (a b : Bool) → eqb r p ≡ a → eqb r q ≡ b → Spot p q r
    go true b e f = first (eqb-true _ _ e)
    go false true e f = second (eqb-true _ _ f)
    go false false e f = neither (eqb-false _ _ e) (eqb-false _ _ f)

module _ (P : Parameters) (p q : ℕ) (A : ℕ → ℕ → Float) where
  -- ---- columns of the eigenvectors
  pub all_first : (r : ℕ) → column_turn_all P p q A r p ≡ (turn_of P (A r p) (A r q)).left
  unfolding column_turn_all turned_at
  all_first r = rw (eq-eqb p p refl)

  pub all_second : (r : ℕ) → p ≢ q → column_turn_all P p q A r q ≡ (turn_of P (A r p) (A r q)).right
  unfolding column_turn_all turned_at
  all_second r pq = rw (ne_eqb q p (λ e. pq (sym e)), eq-eqb q q refl)

  pub all_other : (r c : ℕ) → c ≢ p → c ≢ q → column_turn_all P p q A r c ≡ A r c
  unfolding column_turn_all turned_at
  all_other r c cp cq = rw (ne_eqb c p cp, ne_eqb c q cq)

  -- ---- the matrix
  module _ (pq : p ≢ q) where
    qp : q ≢ p
    qp e = pq (sym e)

    pub at_first_first : pair_turned P p q A p p ≡ (diagonal_of P (A p p) (A q q) (A p q)).left
    unfolding pair_turned place matrix_block pair_block
    at_first_first = rw (eq-eqb p p refl, ne_eqb p q pq)

    pub at_second_second : pair_turned P p q A q q ≡ (diagonal_of P (A p p) (A q q) (A p q)).right
    unfolding pair_turned place matrix_block pair_block
    at_second_second = rw (eq-eqb q q refl, ne_eqb q p qp)

    pub at_first_second : pair_turned P p q A p q ≡ plus_zero
    unfolding pair_turned place matrix_block pair_block
    at_first_second = rw (eq-eqb p p refl, eq-eqb q q refl, ne_eqb q p qp)

    pub at_second_first : pair_turned P p q A q p ≡ plus_zero
    unfolding pair_turned place matrix_block pair_block
    at_second_first = rw (eq-eqb p p refl, eq-eqb q q refl, ne_eqb q p qp)

    module _ (r : ℕ) (rp : r ≢ p) (rq : r ≢ q) where
      pub at_first_other : pair_turned P p q A p r ≡ (turn_of P (A p r) (A q r)).left
      unfolding pair_turned place matrix_block pair_block column_turn row_turn turned_at
      at_first_other = rw (eq-eqb p p refl, ne_eqb p q pq, ne_eqb r p rp, ne_eqb r q rq)

      pub at_second_other : pair_turned P p q A q r ≡ (turn_of P (A p r) (A q r)).right
      unfolding pair_turned place matrix_block pair_block column_turn row_turn turned_at
      at_second_other = rw (eq-eqb q q refl, ne_eqb q p qp, ne_eqb r p rp, ne_eqb r q rq)

      pub at_other_first : pair_turned P p q A r p ≡ (turn_of P (A r p) (A r q)).left
      unfolding pair_turned place matrix_block pair_block column_turn row_turn turned_at
      at_other_first = rw (eq-eqb p p refl, eq-eqb q q refl, ne_eqb p q pq, ne_eqb q p qp, ne_eqb r p rp, ne_eqb r q rq)

      pub at_other_second : pair_turned P p q A r q ≡ (turn_of P (A r p) (A r q)).right
      unfolding pair_turned place matrix_block pair_block column_turn row_turn turned_at
      at_other_second = rw (eq-eqb p p refl, eq-eqb q q refl, ne_eqb q p qp, ne_eqb r p rp, ne_eqb r q rq)

      pub at_others : (c : ℕ) → c ≢ p → c ≢ q → pair_turned P p q A r c ≡ A r c
      unfolding pair_turned place matrix_block pair_block column_turn row_turn turned_at
      at_others c cp cq = rw (ne_eqb c p cp, ne_eqb c q cq, ne_eqb r p rp, ne_eqb r q rq)

-- ---- a still pair changes no entry but its own two
pub still_others : (p q : ℕ) → p ≢ q → (A : ℕ → ℕ → Float) (i j : ℕ) → ¬ ((i ≡ p) × (j ≡ q)) → ¬ ((i ≡ q) × (j ≡ p)) → pair_turned Still p q A i j ≡ A i j
still_others p q pq A i j e f = go (spot p q i) (spot p q j)
  where
    go : Spot p q i → Spot p q j → pair_turned Still p q A i j ≡ A i j
    go (first x) (first y) = rw (x, y) (at_first_first Still p q A pq)
    go (first x) (second y) = absurd (e (x, y))
    go (first x) (neither a b) = rw x (at_first_other Still p q A pq j a b)
    go (second x) (first y) = absurd (f (x, y))
    go (second x) (second y) = rw (x, y) (at_second_second Still p q A pq)
    go (second x) (neither a b) = rw x (at_second_other Still p q A pq j a b)
    go (neither a b) (first y) = rw y (at_other_first Still p q A pq i a b)
    go (neither a b) (second y) = rw y (at_other_second Still p q A pq i a b)
    go (neither a b) (neither c d) = at_others Still p q A pq i a b j c d

-- ---- The four entries of the pair are set last, so the turns before may go through all columns and rows.
module _ (P : Parameters) (p q : ℕ) (A : ℕ → ℕ → Float) where
  first_one : is_one p q p ≡ true
  first_one = rw (eq-eqb p p refl)

  second_one : is_one p q q ≡ true
  second_one = go (eqb q p)
    where
      go : (b : Bool) → (b || eqb q q) ≡ true
      go true = refl
      go false = eq-eqb q q refl

  whole_row : (r c : ℕ) → c ≢ p → c ≢ q → column_turn_all P p q (row_turn_all P p q A) r c ≡ column_turn P p q (row_turn P p q A) r c
  unfolding column_turn_all row_turn_all column_turn row_turn turned_at
  whole_row r c cp cq = rw (ne_eqb c p cp, ne_eqb c q cq) (sym (same_either (is_one p q r) refl))

  whole_column : (r c : ℕ) → r ≢ p → r ≢ q → column_turn_all P p q (row_turn_all P p q A) r c ≡ column_turn P p q (row_turn P p q A) r c
  unfolding column_turn_all row_turn_all column_turn row_turn turned_at
  whole_column r c rp rq = rw (first_one, second_one, ne_eqb r p rp, ne_eqb r q rq) (rw (same_either (is_one p q c) refl))

  -- the entries at p and q may differ
  four_set : (b : Block Float) (X Y : ℕ → ℕ → Float) (r c : ℕ) → (is_one p q r ≡ false → X r c ≡ Y r c) → (is_one p q c ≡ false → X r c ≡ Y r c)
      → place b p q X r c ≡ place b p q Y r c
  unfolding place
  four_set b X Y r c h k = go (eqb r p) (eqb r q) (eqb c p) (eqb c q) h k
    where
      go : (i j d e : Bool) → ((i || j) ≡ false → X r c ≡ Y r c) → ((d || e) ≡ false → X r c ≡ Y r c)
          → cond i (cond d b.α (cond e b.β (X r c))) (cond j (cond d b.γ (cond e b.δ (X r c))) (X r c))
          ≡ cond i (cond d b.α (cond e b.β (Y r c))) (cond j (cond d b.γ (cond e b.δ (Y r c))) (Y r c))
      go true j true e h k = refl
      go true j false true h k = refl
      go true j false false h k = k refl
      go false true true e h k = refl
      go false true false true h k = refl
      go false true false false h k = k refl
      go false false d e h k = h refl

  pub turned_whole : (r c : ℕ) → place (matrix_block P (pair_block p q A)) p q (column_turn_all P p q (row_turn_all P p q A)) r c ≡ pair_turned P p q A r c
  unfolding pair_turned
  turned_whole r c =
      four_set (matrix_block P (pair_block p q A)) (column_turn_all P p q (row_turn_all P p q A)) (column_turn P p q (row_turn P p q A)) r c
      (λ e. let o = or_false _ _ e in whole_column r c (eqb-false _ _ o.0) (eqb-false _ _ o.1))
      (λ e. let o = or_false _ _ e in whole_row r c (eqb-false _ _ o.0) (eqb-false _ _ o.1))

-- ---- the four entries of a pair, one after the other
pub placed : (b : Block Float) (p q : ℕ) → p ≢ q → (M : ℕ → ℕ → Float) (r c : ℕ)
    → place b p q M r c ≡ with_entry q p b.γ (with_entry p q b.β (with_entry q q b.δ (with_entry p p b.α M))) r c
unfolding place with_entry
placed b p q pq M r c = go (eqb r p) (eqb r q) (eqb c p) (eqb c q) refl refl refl refl
  where
    not_both : (k : ℕ) → eqb k p ≡ true → ¬ (eqb k q ≡ true)
    not_both k e f = pq (sym (eqb-true k p e) ∙ eqb-true k q f)

    go : (i j d e : Bool) → eqb r p ≡ i → eqb r q ≡ j → eqb c p ≡ d → eqb c q ≡ e
        → cond i (cond d b.α (cond e b.β (M r c))) (cond j (cond d b.γ (cond e b.δ (M r c))) (M r c))
        ≡ cond (j && d) b.γ (cond (i && e) b.β (cond (j && e) b.δ (cond (i && d) b.α (M r c))))
    go true true d e z w x y = absurd (not_both r z w)
    go true false true true z w x y = absurd (not_both c x y)
    go true false true false z w x y = refl
    go true false false true z w x y = refl
    go true false false false z w x y = refl
    go false true true e z w x y = refl
    go false true false true z w x y = refl
    go false true false false z w x y = refl
    go false false d e z w x y = refl
