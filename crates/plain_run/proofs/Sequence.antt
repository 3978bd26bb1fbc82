-- The plain run, entry by entry, is the sequential run of the theory on cells of two values. Assumes nothing.
use Prim.Native.Nat.{ℕ, zero, suc, ◌-◌, ◌<◌}
use mathlib.Core.Path.{◌≡◌, refl, ap, ◌∙◌, fun_ext}
use mathlib.Core.Bool.{true}
use mathlib.Core.List.{List}
use mathlib.Core.Logic.{◌≢◌}
use native.Mathlib.Omega.{arith}
use lib.ListN.{get_or}
use lib.Ieee.{Float}
use Rattle.systolic.specs.Slots.{Side, left, right, Slot, slot, line_at, ordered_line}
use Rattle.lists.specs.Bounded.{any}
use Rattle.systolic.specs.Blocks.{cell}
use Rattle.systolic.specs.Sequential.{pair_block, sequential, block_at_turn, fails_in}
use Rattle.systolic.specs.Sequential as theory
use Rattle.systolic.proofs.Steps.{end, pair_none, pair_row, pair_column, pair_cells}
use Rattle.matrix_turns.specs.Turns.{parameters_of, column_turn_all}
use Rattle.rotation.specs.declared.Parameters.{Parameters}
use Rattle.rotation.specs.Rotation.{sent, turn_of}
use Rattle.sizes.specs.Sizes.{is_order, processors_of, first_line, lines_of}
use Rattle.sizes.proofs.Orders.{order_half}
use Rattle.ordering.specs.Pairs.{registers_at}
use Rattle.ordering.proofs.RegisterLines.{left_stands, right_stands, lines_differ}
use Rattle.runs.specs.State.{State}
use Rattle.plain_pair.specs.Pair.{pair_turned, pair_rotated}
use Rattle.plain_run.specs.State.{pairs_rotated, after, not_finite_from, not_finite, spoiled}
use Rattle.plain_run.specs.Met.{pair_met}
use Rattle.runs.specs.Blocks.{ruled, matrix_block, columns_block}
use Rattle.runs.specs.Cells.{Cell, cell_of, side_of, sides, block_turned, Setting, found_block, rules}
use Rattle.runs.proofs.LineZero.{received_ruled}
use Rattle.plain_pair.proofs.TurnedEntries.{Spot, first, second, neither, spot, all_first, all_second, all_other}
use Rattle.plain_pair.proofs.TurnedEntries.{at_first_first, at_second_second, at_first_second, at_second_first}
use Rattle.plain_pair.proofs.TurnedEntries.{at_first_other, at_second_other, at_other_first, at_other_second, at_others}

-- ---- one pair
module _ (S : Setting) (k i p q : ℕ) (pq : p ≢ q) (X : State) where
  abbrev P : Parameters
  P = ruled S.order i (parameters_of p q X.matrix)

  abbrev A : ℕ → ℕ → Float
  A = X.matrix

  abbrev E : ℕ → ℕ → Float
  E = X.vectors

  seen : (r c : ℕ) {x e : Float} → pair_turned P p q A r c ≡ x → column_turn_all P p q E r c ≡ e
      → record { entry = x; vector = e } ≡ cell_of (pair_rotated S.order i p q X) r c
  unfolding cell_of pair_rotated
  seen r c f g = rw (← f, ← g)

  -- a tile that receives the tangent turns as the pair does
  turned : (s : Side) (x y e f : Float) → (rules S).column_turn (sent P) s (record { entry = x; vector = e }) (record { entry = y; vector = f })
      ≡ record { entry = side_of s (turn_of P x y); vector = side_of s (turn_of P e f) }
  unfolding rules
  turned s x y e f = rw (received_ruled S.order i (A p p) (A q q) (A p q))

  row_turned_lem : (s : Side) (x y e f : Float) → (rules S).row_turn (sent P) s (record { entry = x; vector = e }) (record { entry = y; vector = f })
      ≡ record { entry = side_of s (turn_of P x y); vector = side_of s (sides e f) }
  unfolding rules
  row_turned_lem s x y e f = rw (received_ruled S.order i (A p p) (A q q) (A p q))

  in_row : (s : Side) (c : ℕ) → c ≢ p → c ≢ q
      → theory.pair_step (rules S) k i p q (cell_of X) (end s p q) c ≡ (rules S).row_turn (sent P) s (cell_of X p c) (cell_of X q c)
  unfolding rules pair_block cell_of
  in_row s c a b = pair_row (rules S) k i p q pq (cell_of X) s (end s p q) c refl a b

  in_column_lem : (s : Side) (r : ℕ) → r ≢ p → r ≢ q
      → theory.pair_step (rules S) k i p q (cell_of X) r (end s p q) ≡ (rules S).column_turn (sent P) s (cell_of X r p) (cell_of X r q)
  unfolding rules pair_block cell_of
  in_column_lem s r a b = pair_column (rules S) k i p q pq (cell_of X) s r (end s p q) refl a b

  pub pair_cellwise : (r c : ℕ) → theory.pair_step (rules S) k i p q (cell_of X) r c ≡ cell_of (pair_rotated S.order i p q X) r c
  pair_cellwise r c = go (spot p q r) (spot p q c)
    where
      block : (s t : Side) → theory.pair_step (rules S) k i p q (cell_of X) (end s p q) (end t p q) ≡ cell s t (block_turned P (pair_block p q (cell_of X)))
      block s t = unfold rules pair_block cell_of in (pair_cells (rules S) k i p q pq (cell_of X) s t (end s p q) (end t p q) refl refl)

      inside : (s t : Side) → cell s t (block_turned P (pair_block p q (cell_of X))) ≡ cell_of (pair_rotated S.order i p q X) (end s p q) (end t p q)
      inside left left =
          unfold cell block_turned matrix_block columns_block pair_block cell_of in (seen p p (at_first_first P p q A pq) (all_first P p q E p))
      inside left right =
          unfold cell block_turned matrix_block columns_block pair_block cell_of in (seen p q (at_first_second P p q A pq) (all_second P p q E p pq))
      inside right left =
          unfold cell block_turned matrix_block columns_block pair_block cell_of in (seen q p (at_second_first P p q A pq) (all_first P p q E q))
      inside right right =
          unfold cell block_turned matrix_block columns_block pair_block cell_of in (seen q q (at_second_second P p q A pq) (all_second P p q E q pq))

      row_seen : (s : Side) (c : ℕ) → c ≢ p → c ≢ q
          → (rules S).row_turn (sent P) s (cell_of X p c) (cell_of X q c) ≡ cell_of (pair_rotated S.order i p q X) (end s p q) c
      row_seen left c a b =
          unfold cell_of in (row_turned_lem left (A p c) (A q c) (E p c) (E q c)) ∙ seen p c (at_first_other P p q A pq c a b) (all_other P p q E p c a b)
      row_seen right c a b =
          unfold cell_of in (row_turned_lem right (A p c) (A q c) (E p c) (E q c)) ∙ seen q c (at_second_other P p q A pq c a b) (all_other P p q E q c a b)

      column_seen : (s : Side) (r : ℕ) → r ≢ p → r ≢ q
          → (rules S).column_turn (sent P) s (cell_of X r p) (cell_of X r q) ≡ cell_of (pair_rotated S.order i p q X) r (end s p q)
      column_seen left r a b =
          unfold cell_of in (turned left (A r p) (A r q) (E r p) (E r q)) ∙ seen r p (at_other_first P p q A pq r a b) (all_first P p q E r)
      column_seen right r a b =
          unfold cell_of in (turned right (A r p) (A r q) (E r p) (E r q)) ∙ seen r q (at_other_second P p q A pq r a b) (all_second P p q E r pq)

      go : Spot p q r → Spot p q c → theory.pair_step (rules S) k i p q (cell_of X) r c ≡ cell_of (pair_rotated S.order i p q X) r c
      go (first e) (first f) = rw (e, f) (block left left ∙ inside left left)
      go (first e) (second f) = rw (e, f) (block left right ∙ inside left right)
      go (first e) (neither a b) = rw e (in_row left c a b ∙ row_seen left c a b)
      go (second e) (first f) = rw (e, f) (block right left ∙ inside right left)
      go (second e) (second f) = rw (e, f) (block right right ∙ inside right right)
      go (second e) (neither a b) = rw e (in_row right c a b ∙ row_seen right c a b)
      go (neither a b) (first f) = rw f (in_column_lem left r a b ∙ column_seen left r a b)
      go (neither a b) (second f) = rw f (in_column_lem right r a b ∙ column_seen right r a b)
      go (neither a b) (neither a' b') =
          pair_none (rules S) k i p q pq (cell_of X) r c a b a' b'
          ∙ unfold cell_of in (seen r c (at_others P p q A pq r a b c a' b') (all_other P p q E r c a' b'))

-- ---- the pairs of a step
same_function : {X : Type 0} {f g : ℕ → ℕ → X} → ((r c : ℕ) → f r c ≡ g r c) → f ≡ g
same_function h = fun_ext (λ r. fun_ext (λ c. h r c))

module _ (S : Setting) (k : ℕ) (L : Slot → ℕ) (ls rs : List ℕ) where
  pairs_cellwise : (N : ℕ) → ((i : ℕ) → i < N → (get_or ls i 0 ≡ L (slot i left)) × (get_or rs i 0 ≡ L (slot i right)) × (L (slot i left) ≢ L (slot i right)))
      → (X : State) → theory.pairs_step (rules S) k L N (cell_of X) ≡ cell_of (pairs_rotated S.order ls rs N X)
  unfolding theory.pairs_step pairs_rotated
  pairs_cellwise zero h X = refl
  pairs_cellwise (suc i) h X =
      let e = h i (omega arith) in
      ap (theory.pair_step (rules S) k i (L (slot i left)) (L (slot i right))) (pairs_cellwise i (λ j o. h j (omega arith)) X)
      ∙ rw (e.0, e.1) (same_function (pair_cellwise S k i (L (slot i left)) (L (slot i right)) e.2 (pairs_rotated S.order ls rs i X)))

-- ---- the steps of a run
module _ (S : Setting) (order : is_order S.order ≡ true) (X : State) where
  abbrev n : ℕ
  n = S.order

  pub plain_sequential : (k : ℕ) → sequential (rules S) (ordered_line (first_line n)) (processors_of n - 1) (cell_of X) k ≡ cell_of (after n k X)
  unfolding sequential after
  plain_sequential zero = refl
  plain_sequential (suc k) =
      let h = (order_half n order).0 in
      let z : suc (processors_of n - 1) ≡ processors_of n = omega arith in
      rw z
      (ap (theory.pairs_step (rules S) k (line_at (ordered_line (first_line n)) (processors_of n - 1) k) (processors_of n)) (plain_sequential k)
      ∙ pairs_cellwise S k (line_at (ordered_line (first_line n)) (processors_of n - 1) k) _ _ (processors_of n)
      (λ i o. (left_stands n order k i o, right_stands n order k i o, lines_differ n order k i o)) (after n k X))

  -- what a processor finds of the block of its pair
  pub found_are : (k i : ℕ) → i < processors_of n
      → found_block S i (block_at_turn (rules S) (ordered_line (first_line n)) (processors_of n - 1) (cell_of X) k i) ≡ pair_met n k i X
  unfolding block_at_turn pair_met
  found_are k i l =
      let L = line_at (ordered_line (first_line n)) (processors_of n - 1) k in
      ap (λ (M : ℕ → ℕ → Cell). found_block S i (pair_block (L (slot i left)) (L (slot i right)) M))
      (ap (theory.pairs_step (rules S) k L i) (plain_sequential k)
      ∙ pairs_cellwise S k L (registers_at n k).left (registers_at n k).right i
      (λ j o. (left_stands n order k j (omega arith), right_stands n order k j (omega arith), lines_differ n order k j (omega arith))) (after n k X))
      ∙ rw (← (left_stands n order k i l), ← (right_stands n order k i l)) (unfold pair_block cell_of in refl)

  -- the cells that fail are the entries that are not finite
  pub fails_are : (Y : State) → fails_in (rules S) (first_line n) (lines_of n) (cell_of Y) ≡ not_finite n Y
  unfolding fails_in not_finite not_finite_from rules cell_of
  fails_are Y = refl

  -- a run is spoiled exactly if a cell fails after some step
  pub plain_fails : (K : ℕ)
      → any K (λ k. fails_in (rules S) (first_line n) (lines_of n)
      (sequential (rules S) (ordered_line (first_line n)) (processors_of n - 1) (cell_of X) (suc k)))
      ≡ spoiled n K X
  unfolding spoiled
  plain_fails K = ap (any K) (fun_ext (λ k. ap (fails_in (rules S) (first_line n) (lines_of n)) (plain_sequential (suc k)) ∙ fails_are (after n (suc k) X)))
