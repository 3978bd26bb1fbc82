-- What the parts of a pair's turn leave in the two lists is the state turned. Assumes nothing.
use Prim.Native.Nat.{ℕ, ◌*◌}
use mathlib.Core.Path.{◌≡◌, refl, sym, ap, ◌∙◌}
use mathlib.Core.Bool.{Bool, true, false, cond, ◌&&◌}
use mathlib.Core.List.{List}
use mathlib.Core.Logic.{◌≢◌}
use borrow.Author.Tests.{eqb-true}
use lib.Dec.{eqb}
use lib.ListN.{length}
use lib.Ieee.{Float}
use Rattle.float64.specs.Values.{plus_zero}
use Rattle.systolic.specs.Sequential.{pair_block}
use Rattle.rotation.specs.declared.Parameters.{Parameters}
use Rattle.rotation.specs.declared.Parameters.TheVariants.{Still}
use Rattle.rotation.specs.declared.Sides.{Sides}
use Rattle.rotation.specs.Rotation.{diagonal_of}
use Rattle.matrix.specs.Matrix.{at, flat, entry_of}
use Rattle.matrix.specs.Transposed.{transposed}
use Rattle.matrix.proofs.Flat.{flat_length}
use Rattle.matrix.proofs.SameEntries.{Same, flat_same, flat_again, one_more}
use Rattle.matrix_turns.specs.Turns.{two_lines, on_lines, row_turn, column_turn, row_turn_all, column_turn_all}
use Rattle.matrix_turns.proofs.LinePairs.{are_two, two_as, first_line_lem, second_line_lem, pair_entries, turned_flat}
use Rattle.matrix_turns.proofs.SameTurns.{all_columns_same}
use Rattle.matrix_turns.proofs.StillTurns.{still_rows, still_columns, still_all_columns}
use Rattle.runs.specs.Blocks.{matrix_block}
use Rattle.plain_pair.proofs.TurnedEntries.{turned_whole, placed}
use Rattle.plain_pair.specs.Pair.{with_entry, pair_turned, state_turned, state_of, Held}

-- ---- one entry
module _ (p q : ℕ) (x : Float) where
  entry_same : (n : ℕ) (A B : ℕ → ℕ → Float) → Same n A B → Same n (with_entry p q x A) (with_entry p q x B)
  unfolding with_entry
  entry_same n A B h r c hr hc = rw (h r c hr hc)

  entry_ext : (A B : ℕ → ℕ → Float) → ((r c : ℕ) → A r c ≡ B r c) → (r c : ℕ) → with_entry p q x A r c ≡ with_entry p q x B r c
  unfolding with_entry
  entry_ext A B h r c = rw (h r c)

  -- the entry that is there already
  entry_kept : (A : ℕ → ℕ → Float) (r c : ℕ) → x ≡ A p q → with_entry p q x A r c ≡ A r c
  unfolding with_entry
  entry_kept A r c e = go (eqb r p) (eqb c q) refl refl
    where
      go : (a b : Bool) → eqb r p ≡ a → eqb c q ≡ b → cond (a && b) x (A r c) ≡ A r c
      go true true f g = e ∙ sym (ap (λ (k : ℕ). A k c) (eqb-true r p f) ∙ ap (λ (k : ℕ). A p k) (eqb-true c q g))
      go true false f g = refl
      go false b f g = refl

-- ---- the entries of a pair
-- the two that become +0
pub cleared : (n p q : ℕ) (l l' l'' : List Float) → l' ≡ flat n (with_entry p q plus_zero (at n l)) → l'' ≡ flat n (with_entry q p plus_zero (at n l'))
    → l'' ≡ flat n (with_entry q p plus_zero (with_entry p q plus_zero (at n l)))
cleared n p q l l' l'' e f = one_more n _ (with_entry q p plus_zero) (entry_same q p plus_zero n) e f

module _ (n p q : ℕ) where
  cleared_same : (A B : ℕ → ℕ → Float) → Same n A B
      → Same n (with_entry q p plus_zero (with_entry p q plus_zero A)) (with_entry q p plus_zero (with_entry p q plus_zero B))
  cleared_same A B h = entry_same q p plus_zero n _ _ (entry_same p q plus_zero n _ _ h)

  -- the four entries of a pair
  abbrev with_pair : Float → Float → (ℕ → ℕ → Float) → ℕ → ℕ → Float
  with_pair x y A = with_entry q p plus_zero (with_entry p q plus_zero (with_entry q q y (with_entry p p x A)))

  set_same : (x y : Float) (A B : ℕ → ℕ → Float) → Same n A B → Same n (with_pair x y A) (with_pair x y B)
  set_same x y A B h = cleared_same _ _ (entry_same q q y n _ _ (entry_same p p x n _ _ h))

  pub pair_set : (x y : Float) (l l₁ l₂ l₃ : List Float) → l₁ ≡ flat n (with_entry p p x (at n l)) → l₂ ≡ flat n (with_entry q q y (at n l₁))
      → l₃ ≡ flat n (with_entry q p plus_zero (with_entry p q plus_zero (at n l₂))) → l₃ ≡ flat n (with_pair x y (at n l))
  pair_set x y l l₁ l₂ l₃ e f g =
      one_more n _ (λ A. with_entry q p plus_zero (with_entry p q plus_zero A)) cleared_same (one_more n _ (with_entry q q y) (entry_same q q y n) e f) g

  -- ---- a turn: the rows, the columns, the entries of the pair
  set_turned : (P : Parameters) (A : ℕ → ℕ → Float) → p ≢ q → (r c : ℕ)
      → with_pair (diagonal_of P (A p p) (A q q) (A p q)).left (diagonal_of P (A p p) (A q q) (A p q)).right (column_turn_all P p q (row_turn_all P p q A)) r c
      ≡ pair_turned P p q A r c
  set_turned P A pq r c =
      unfold matrix_block pair_block in (sym (placed (matrix_block P (pair_block p q A)) p q pq (column_turn_all P p q (row_turn_all P p q A)) r c))
      ∙ turned_whole P p q A r c

  pub turn_made : (P : Parameters) (l l₁ l₂ l₃ : List Float) (s : Sides) → two_lines n p q (n * n) ≡ true → length l ≡ n * n
      → s ≡ diagonal_of P (entry_of n l p p) (entry_of n l q q) (entry_of n l p q)
      → l₁ ≡ on_lines n p q (row_turn_all P p q) l → l₂ ≡ on_lines n p q (column_turn_all P p q) l₁
      → l₃ ≡ flat n (with_pair s.left s.right (at n l₂)) → l₃ ≡ flat n (pair_turned P p q (at n l))
  turn_made P l l₁ l₂ l₃ s square long d e₁ e₂ e₃ =
      let two = two_as n p q square long in
      let t = are_two n p q (length l) two in
      let z = pair_entries n p q l two in
      let f₁ : l₁ ≡ flat n (row_turn_all P p q (at n l)) = e₁ ∙ turned_flat n p q (row_turn_all P p q) l two in
      let two₁ : two_lines n p q (length l₁) ≡ true = two_as n p q two (ap length f₁ ∙ flat_length n _ ∙ sym t.long) in
      let f₂ =
      one_more n _ (column_turn_all P p q) (all_columns_same n P p q (first_line_lem t) (second_line_lem t)) f₁
      (e₂ ∙ turned_flat n p q (column_turn_all P p q) l₁ two₁) in
      rw (d, z.0, z.1, z.2) at (one_more n _ (with_pair s.left s.right) (set_same s.left s.right) f₂ e₃)
      ∙ flat_same n _ _ (λ r c hr hc. set_turned P (at n l) t.apart r c)

  -- the row turn is the column turn of the transposed matrix
  row_as_column : (P : Parameters) (A : ℕ → ℕ → Float) (r c : ℕ) → row_turn_all P p q A r c ≡ column_turn_all P p q (transposed A) c r
  unfolding row_turn_all column_turn_all
  row_as_column P A r c = refl

  -- ---- both lists, turned or still
  pub turn_held : (P : Parameters) (l l' e e' : List Float) → two_lines n p q (n * n) ≡ true → length l ≡ n * n → length e ≡ n * n
      → l' ≡ flat n (pair_turned P p q (at n l)) → e' ≡ on_lines n p q (row_turn_all P p q) e → Held n l' e' (state_turned P p q (state_of n l e))
  unfolding state_of
  turn_held P l l' e e' square long long' f g =
      record {
        matrix_held = f;
        vectors_held =
            g ∙ turned_flat n p q (row_turn_all P p q) e (two_as n p q square long')
            ∙ flat_same n _ _ (λ r c hr hc. row_as_column P (at n e) r c);
      }

  pub still_turned : (A : ℕ → ℕ → Float) → p ≢ q → (r c : ℕ) → pair_turned Still p q A r c ≡ with_entry q p plus_zero (with_entry p q plus_zero A) r c
  unfolding pair_turned
  still_turned A pq r c =
      unfold matrix_block pair_block in (placed (matrix_block Still (pair_block p q A)) p q pq (column_turn Still p q (row_turn Still p q A)) r c)
      ∙ entry_ext q p plus_zero _ _ (entry_ext p q plus_zero _ _ (λ r c. diagonal_kept r c ∙ turns_kept r c)) r c
    where
      turns_kept : (r c : ℕ) → column_turn Still p q (row_turn Still p q A) r c ≡ A r c
      turns_kept r c = still_columns p q (row_turn Still p q A) r c ∙ still_rows p q A r c

      first_kept : (r c : ℕ) → with_entry p p (A p p) (column_turn Still p q (row_turn Still p q A)) r c ≡ column_turn Still p q (row_turn Still p q A) r c
      first_kept r c = entry_kept p p (A p p) (column_turn Still p q (row_turn Still p q A)) r c (sym (turns_kept p p))

      diagonal_kept : (r c : ℕ)
          → with_entry q q (A q q) (with_entry p p (A p p) (column_turn Still p q (row_turn Still p q A))) r c
          ≡ column_turn Still p q (row_turn Still p q A) r c
      diagonal_kept r c = entry_kept q q (A q q) _ r c (sym (first_kept q q ∙ turns_kept q q)) ∙ first_kept r c

  pub still_held : {Q : Parameters} (l l' e : List Float) → two_lines n p q (n * n) ≡ true → length l ≡ n * n → length e ≡ n * n → Still ≡ Q
      → l' ≡ flat n (with_entry q p plus_zero (with_entry p q plus_zero (at n l))) → Held n l' e (state_turned Q p q (state_of n l e))
  unfolding state_of
  still_held l l' e square long long' z f =
      record {
        matrix_held = f ∙ flat_same n _ _ (λ r c hr hc. rw (← z) (sym (still_turned (at n l) (are_two n p q (n * n) square).apart r c)));
        vectors_held = flat_again n e long' ∙ flat_same n _ _ (λ r c hr hc. rw (← z) (sym (still_all_columns p q (transposed (at n e)) c r)));
      }
