-- The pairs one after the other do what the rotation of all blocks does at once. Assumes nothing.
use Prim.Native.Nat.{ℕ, zero, suc, ◌≤◌, ◌<◌}
use mathlib.Core.Path.{◌≡◌, refl, sym, ◌∙◌, ap}
use mathlib.Core.Bool.{Bool, true, false, cond, true≢false}
use native.Mathlib.Omega.{arith}
use borrow.Author.Tests.{ltb-true, ltb-false, eqb-true, eqb-false, eq-eqb, ne_eqb}
use lib.Dec.{ltb, eqb}
use Rattle.systolic.specs.Slots.{Side, left, right, Slot, slot}
use Rattle.systolic.specs.Blocks.{Block, cell, tab}
use Rattle.systolic.specs.Synchronous.{rotate_all}
use Rattle.systolic.specs.Sequential.{Rules, turn_rows, turn_columns, pair_block, place, pair_step}
use Rattle.systolic.specs.Sequential.{pairs_step, block_at, turn_block_rows, turn_block_columns, operations_of}
use Rattle.systolic.proofs.Cells.{cell_tab, tab_ext, tab_cell}
use Rattle.lists.proofs.Bounded.{up_to}
use Rattle.systolic.proofs.Lines.{Distinct}

-- the one line or the other
abbrev pub end : Side → ℕ → ℕ → ℕ
end left p q = p
end right p q = q

side_no : Side → Bool
side_no left = true
side_no right = false

left≢right : ¬ (left ≡ right)
unfolding side_no
left≢right e = true≢false (ap side_no e)

-- ---- one pair, entry by entry
module _ {X H W D : Type 0} (R : Rules X H W D) (k i p q : ℕ) (ne : ¬ (p ≡ q)) (M : ℕ → ℕ → X) where
  qp : eqb q p ≡ false
  qp = ne_eqb q p (λ e. ne (sym e))

  pub pair_none : (r c : ℕ) → ¬ (r ≡ p) → ¬ (r ≡ q) → ¬ (c ≡ p) → ¬ (c ≡ q) → pair_step R k i p q M r c ≡ M r c
  unfolding pair_step place turn_columns turn_rows
  pair_none r c a b d e = rw (ne_eqb r p a, ne_eqb r q b, ne_eqb c p d, ne_eqb c q e)

  pub pair_row : (s : Side) (r c : ℕ) → r ≡ end s p q → ¬ (c ≡ p) → ¬ (c ≡ q)
      → pair_step R k i p q M r c ≡ R.row_turn (R.sends_row k i (pair_block p q M)) s (M p c) (M q c)
  unfolding pair_step place turn_columns turn_rows
  pair_row left r c z d e = rw (z, eq-eqb p p refl, ne_eqb c p d, ne_eqb c q e)
  pair_row right r c z d e = rw (z, qp, eq-eqb q q refl, ne_eqb c p d, ne_eqb c q e)

  pub pair_column : (s : Side) (r c : ℕ) → c ≡ end s p q → ¬ (r ≡ p) → ¬ (r ≡ q)
      → pair_step R k i p q M r c ≡ R.column_turn (R.sends_column k i (pair_block p q M)) s (M r p) (M r q)
  unfolding pair_step place turn_columns turn_rows
  pair_column left r c z d e = rw (z, eq-eqb p p refl, qp, eq-eqb q q refl, ne_eqb r p d, ne_eqb r q e)
  pair_column right r c z d e = rw (z, eq-eqb p p refl, qp, eq-eqb q q refl, ne_eqb r p d, ne_eqb r q e)

  pub pair_cells : (s t : Side) (r c : ℕ) → r ≡ end s p q → c ≡ end t p q
      → pair_step R k i p q M r c ≡ cell s t (R.diagonal k i (pair_block p q M))
  unfolding pair_step place cell
  pair_cells left left r c y z = rw (y, z, eq-eqb p p refl)
  pair_cells left right r c y z = rw (y, z, eq-eqb p p refl, qp, eq-eqb q q refl)
  pair_cells right left r c y z = rw (y, z, eq-eqb p p refl, qp, eq-eqb q q refl)
  pair_cells right right r c y z = rw (y, z, qp, eq-eqb q q refl)

-- ---- one pair, block by block
module _ {X H W D : Type 0} (R : Rules X H W D) (k m : ℕ) (L : Slot → ℕ) (one : Distinct m L) where
  end_of : (n : ℕ) (s : Side) → L (slot n s) ≡ end s (L (slot n left)) (L (slot n right))
  end_of n left = refl
  end_of n right = refl

  ends : (n : ℕ) → n ≤ m → ¬ (L (slot n left) ≡ L (slot n right))
  unfolding slot
  ends n l e = left≢right (ap (λ u. u.side) (one (slot n left) (slot n right) l l e))

  other : (n i : ℕ) → n ≤ m → i ≤ m → ¬ (i ≡ n) → (s t : Side) → ¬ (L (slot i s) ≡ L (slot n t))
  unfolding slot
  other n i l h d s t e = d (ap (λ u. u.processor) (one (slot i s) (slot n t) h l e))

  pair_block_lem : (n : ℕ) (M : ℕ → ℕ → X) → pair_block (L (slot n left)) (L (slot n right)) M ≡ block_at L M n n
  unfolding pair_block block_at tab
  pair_block_lem n M = refl

  abbrev acted : ℕ → (ℕ → ℕ → X) → ℕ → ℕ → X
  acted n M = pair_step R k n (L (slot n left)) (L (slot n right)) M

  module _ (n : ℕ) (l : n ≤ m) (M : ℕ → ℕ → X) where
    -- it changes the blocks of its row and its column only
    step_none : (i j : ℕ) → i ≤ m → j ≤ m → ¬ (i ≡ n) → ¬ (j ≡ n) → block_at L (acted n M) i j ≡ block_at L M i j
    unfolding block_at
    step_none i j h g d e =
        tab_ext _ _ (λ r s. pair_none R k n _ _ (ends n l) M _ _
        (other n i l h d r left) (other n i l h d r right) (other n j l g e s left) (other n j l g e s right))

    step_row : (j : ℕ) → j ≤ m → ¬ (j ≡ n) → block_at L (acted n M) n j ≡ turn_block_rows R (R.sends_row k n (block_at L M n n)) (block_at L M n j)
    unfolding turn_block_rows
    step_row j g e =
        rw (← (pair_block_lem n M))
        (unfold block_at in (tab_ext _ _ (λ r s.
        pair_row R k n _ _ (ends n l) M r _ _ (end_of n r) (other n j l g e s left) (other n j l g e s right) ∙ rw (cell_tab _ left s, cell_tab _ right s))))

    step_column : (i : ℕ) → i ≤ m → ¬ (i ≡ n) → block_at L (acted n M) i n ≡ turn_block_columns R (R.sends_column k n (block_at L M n n)) (block_at L M i n)
    unfolding turn_block_columns
    step_column i h d =
        rw (← (pair_block_lem n M))
        (unfold block_at in (tab_ext _ _ (λ r s.
        pair_column R k n _ _ (ends n l) M s _ _ (end_of n s) (other n i l h d r left) (other n i l h d r right) ∙ rw (cell_tab _ r left, cell_tab _ r right))))

    step_diagonal : block_at L (acted n M) n n ≡ R.diagonal k n (block_at L M n n)
    step_diagonal =
        rw (← (pair_block_lem n M))
        (unfold block_at in (tab_ext _ _ (λ r s. pair_cells R k n _ _ (ends n l) M r s _ _ (end_of n r) (end_of n s))
        ∙ tab_cell (R.diagonal k n (pair_block (L (slot n left)) (L (slot n right)) M))))

  -- ---- the first n pairs, one after the other
  module _ (M : ℕ → ℕ → X) where
    abbrev h : ℕ → H
    h i = R.sends_row k i (block_at L M i i)

    abbrev v : ℕ → W
    v i = R.sends_column k i (block_at L M i i)

    record Mid (n : ℕ) (A : ℕ → ℕ → X) : Type 0 where
      same : (i j : ℕ) → i ≤ m → j ≤ m → n ≤ i → n ≤ j → block_at L A i j ≡ block_at L M i j
      diagonal : (i : ℕ) → i ≤ m → i < n → block_at L A i i ≡ R.diagonal k i (block_at L M i i)
      row : (i j : ℕ) → j ≤ m → i < n → n ≤ j → block_at L A i j ≡ turn_block_rows R (h i) (block_at L M i j)
      column : (i j : ℕ) → i ≤ m → j < n → n ≤ i → block_at L A i j ≡ turn_block_columns R (v j) (block_at L M i j)
      upper : (i j : ℕ) → j ≤ m → i < j → j < n → block_at L A i j ≡ turn_block_columns R (v j) (turn_block_rows R (h i) (block_at L M i j))
      lower : (i j : ℕ) → i ≤ m → j < i → i < n → block_at L A i j ≡ turn_block_rows R (h i) (turn_block_columns R (v j) (block_at L M i j))

    module _ (n : ℕ) (l : n ≤ m) (A : ℕ → ℕ → X) (z : Mid n A) where
      here : block_at L A n n ≡ block_at L M n n
      here = z.same n n l l (omega arith) (omega arith)

      row_turned_lem : (j : ℕ) → j ≤ m → ¬ (j ≡ n) → (b : Block X) → block_at L A n j ≡ b → block_at L (acted n A) n j ≡ turn_block_rows R (h n) b
      row_turned_lem j g d b e = step_row n l A j g d ∙ ap (λ x. turn_block_rows R (R.sends_row k n x) (block_at L A n j)) here ∙ ap (turn_block_rows R (h n)) e

      column_turned_lem : (i : ℕ) → i ≤ m → ¬ (i ≡ n) → (b : Block X) → block_at L A i n ≡ b → block_at L (acted n A) i n ≡ turn_block_columns R (v n) b
      column_turned_lem i g d b e =
          step_column n l A i g d ∙ ap (λ x. turn_block_columns R (R.sends_column k n x) (block_at L A i n)) here ∙ ap (turn_block_columns R (v n)) e

      diagonal_turned : block_at L (acted n A) n n ≡ R.diagonal k n (block_at L M n n)
      diagonal_turned = rw (← here) (step_diagonal n l A)

      mid_more : Mid (suc n) (acted n A)
      mid_more =
          record {
            same = λ i j p q o o'. step_none n l A i j p q (λ e. omega arith) (λ e. omega arith) ∙ z.same i j p q (omega arith) (omega arith);
            diagonal = λ i p o.
                up_to (λ a. block_at L (acted n A) a a ≡ R.diagonal k a (block_at L M a a)) n i o
                (λ u. step_none n l A i i p p (λ e. omega arith) (λ e. omega arith) ∙ z.diagonal i p u) diagonal_turned;
            row = λ i j q o o'.
                up_to (λ a. block_at L (acted n A) a j ≡ turn_block_rows R (h a) (block_at L M a j)) n i o
                (λ u. step_none n l A i j (omega arith) q (λ e. omega arith) (λ e. omega arith) ∙ z.row i j q u (omega arith))
                (row_turned_lem j q (λ e. omega arith) _ (z.same n j l q (omega arith) (omega arith)));
            column = λ i j p o o'.
                up_to (λ a. block_at L (acted n A) i a ≡ turn_block_columns R (v a) (block_at L M i a)) n j o
                (λ u. step_none n l A i j p (omega arith) (λ e. omega arith) (λ e. omega arith) ∙ z.column i j p u (omega arith))
                (column_turned_lem i p (λ e. omega arith) _ (z.same i n p l (omega arith) (omega arith)));
            upper = λ i j q w o.
                up_to (λ a. i < a → block_at L (acted n A) i a ≡ turn_block_columns R (v a) (turn_block_rows R (h i) (block_at L M i a))) n j o
                (λ u w'. step_none n l A i j (omega arith) q (λ e. omega arith) (λ e. omega arith) ∙ z.upper i j q w' u)
                (λ w'. column_turned_lem i (omega arith) (λ e. omega arith) _ (z.row i n l w' (omega arith))) w;
            lower = λ i j p w o.
                up_to (λ a. j < a → block_at L (acted n A) a j ≡ turn_block_rows R (h a) (turn_block_columns R (v j) (block_at L M a j))) n i o
                (λ u w'. step_none n l A i j p (omega arith) (λ e. omega arith) (λ e. omega arith) ∙ z.lower i j p w' u)
                (λ w'. row_turned_lem j (omega arith) (λ e. omega arith) _ (z.column n j l w' (omega arith))) w;
          }

    mid : (n : ℕ) → n ≤ suc m → Mid n (pairs_step R k L n M)
    unfolding pairs_step
    mid zero o =
        record {
          same = λ i j p q o o'. refl;
          diagonal = λ i p o. absurd (omega arith);
          row = λ i j q o o'. absurd (omega arith);
          column = λ i j p o o'. absurd (omega arith);
          upper = λ i j q w o. absurd (omega arith);
          lower = λ i j p w o. absurd (omega arith);
        }
    mid (suc n) o = mid_more n (omega arith) (pairs_step R k L n M) (mid n (omega arith))

    -- the four entries of a pair at its turn are those before the step
    pub at_turn : (i : ℕ) → i ≤ m → pair_block (L (slot i left)) (L (slot i right)) (pairs_step R k L i M) ≡ block_at L M i i
    at_turn i p = pair_block_lem i (pairs_step R k L i M) ∙ (mid i (omega arith)).same i i p p (omega arith) (omega arith)

    -- the blocks after all pairs are the rotated blocks
    pub step_agrees : (l : Slot → ℕ) (M₀ : ℕ → ℕ → X) (x : X) (h₀ : H) (w₀ : W) (d₀ : D) (i j : ℕ) → i ≤ m → j ≤ m
        → rotate_all (operations_of R l M₀ x h₀ w₀ d₀) k (block_at L M) i j ≡ block_at L (pairs_step R k L (suc m) M) i j
    unfolding rotate_all operations_of
    step_agrees l M₀ x h₀ w₀ d₀ i j p q = go (eqb i j) (ltb i j) refl refl
      where
        z : Mid (suc m) (pairs_step R k L (suc m) M)
        z = mid (suc m) (omega arith)

        go : (b c : Bool) → eqb i j ≡ b → ltb i j ≡ c
            → cond b (R.diagonal k i (block_at L M i i))
            (cond c (turn_block_columns R (v j) (turn_block_rows R (h i) (block_at L M i j)))
            (turn_block_rows R (h i) (turn_block_columns R (v j) (block_at L M i j))))
            ≡ block_at L (pairs_step R k L (suc m) M) i j
        go true c e f = let w : i ≡ j = eqb-true _ _ e in rw (← w) (sym (z.diagonal i p (omega arith)))
        go false true e f = let w : i < j = ltb-true _ _ f in sym (z.upper i j q w (omega arith))
        go false false e f =
            let w : ¬ (i ≡ j) = eqb-false _ _ e in let w' : j ≤ i = ltb-false _ _ f in sym (z.lower i j p (omega arith) (omega arith))
