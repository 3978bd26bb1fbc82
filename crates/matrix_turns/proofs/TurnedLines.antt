-- Two places of each line of a matrix turned, line by line. Assumes nothing.
-- `ix r i` is the index of place i of line r: for a row turn the lines are the columns, for a column turn the rows.
use Prim.Native.Nat.{ℕ, zero, suc, ◌+◌, ◌<◌, ◌≤◌}
use mathlib.Core.Path.{◌≡◌, refl, sym, ap, ◌∙◌}
use mathlib.Core.Bool.{Bool, true, false, cond}
use mathlib.Core.List.{List}
use mathlib.Core.Logic.{◌≢◌, ⊎_elim}
use native.Mathlib.Omega.{arith}
use native.Mathlib.Nat.{le_of_suc-le-suc, eq-or-lt_of_le}
use borrow.Author.Tests.{eqb-true, eqb-false}
use lib.Dec.{eqb}
use lib.ListN.{length, get_or, length-set}
use lib.Seq.{get_or-set_same, get_or-set_other, lt-length-set}
use lib.Ieee.{Float, nan}
use Rattle.rotation.specs.declared.Parameters.{Parameters}
use Rattle.rotation.specs.Rotation.{turn_of}
use Rattle.matrix_turns.specs.Turns.{turned_at, places_turned, turn_lines}

-- ---- one line
module _ (P : Parameters) (i j : ℕ) (l : List Float) where
  pub places_length : length (places_turned P i j l) ≡ length l
  unfolding places_turned
  places_length = simp length-set

  places_other : (k : ℕ) → k ≢ i → k ≢ j → get_or (places_turned P i j l) k nan ≡ get_or l k nan
  unfolding places_turned
  places_other k h g = rw (get_or-set_other, get_or-set_other)

  places_first : i ≢ j → i < length l → get_or (places_turned P i j l) i nan ≡ (turn_of P (get_or l i nan) (get_or l j nan)).left
  unfolding places_turned
  places_first h b = rw (get_or-set_other, get_or-set_same)

  places_second : j < length l → get_or (places_turned P i j l) j nan ≡ (turn_of P (get_or l i nan) (get_or l j nan)).right
  unfolding places_turned
  places_second b = rw (get_or-set_same, lt-length-set)

-- ---- all lines
module _ (f g : ℕ → ℕ) (P : Parameters) (l : List Float) where
  pub no_lines : l ≡ turn_lines f g P 0 l
  unfolding turn_lines
  no_lines = refl

  line_after : (r : ℕ) → places_turned P (f r) (g r) (turn_lines f g P r l) ≡ turn_lines f g P (suc r) l
  unfolding turn_lines
  line_after r = refl

  pub next_line : {a b : List Float} (r : ℕ) → a ≡ turn_lines f g P r l → b ≡ places_turned P (f r) (g r) a → b ≡ turn_lines f g P (r + 1) l
  next_line r e h = let s : r + 1 ≡ suc r = omega arith in h ∙ ap (places_turned P (f r) (g r)) e ∙ line_after r ∙ ap (λ (k : ℕ). turn_lines f g P k l) (sym s)

  pub turned_length : (r : ℕ) → length (turn_lines f g P r l) ≡ length l
  unfolding turn_lines
  turned_length zero = refl
  turned_length (suc r) = places_length P (f r) (g r) (turn_lines f g P r l) ∙ turned_length r

-- What the loop over the lines is proved by.
pub ruleset line_steps = (no_lines, next_line, turned_length)

-- places of different lines below n are apart, and all are below N
pub record Grid (n N : ℕ) (ix : ℕ → ℕ → ℕ) : Type 0 where
  pub inside : (r i : ℕ) → r < n → i < n → ix r i < N
  pub apart : (r i r' i' : ℕ) → r < n → i < n → r' < n → i' < n → ix r i ≡ ix r' i' → (r ≡ r') × (i ≡ i')

module _ {n N : ℕ} (ix : ℕ → ℕ → ℕ) (g : Grid n N ix) (P : Parameters) (p q : ℕ) (pn : p < n) (qn : q < n) (pq : p ≢ q) where
  -- another line stays
  line_other : (r k i : ℕ) (l : List Float) → r < n → k < n → i < n → k ≢ r → get_or (places_turned P (ix r p) (ix r q) l) (ix k i) nan ≡ get_or l (ix k i) nan
  line_other r k i l hr hk hi ne =
      places_other P (ix r p) (ix r q) l (ix k i)
      (λ e. ne (g.apart k i r p hk hi hr pn e).0)
      (λ e. ne (g.apart k i r q hk hi hr qn e).0)

  line_same : (r i : ℕ) (l : List Float) → length l ≡ N → r < n → i < n
      → get_or (places_turned P (ix r p) (ix r q) l) (ix r i) nan ≡ turned_at P p q i (get_or l (ix r p) nan) (get_or l (ix r q) nan) (get_or l (ix r i) nan)
  line_same r i l e hr hi = unfold turned_at in (place (eqb i p) refl (eqb i q) refl)
    where
      bp : ix r p < length l
      bp = omega (arith, g.inside r p hr pn)

      bq : ix r q < length l
      bq = omega (arith, g.inside r q hr qn)

      place : (b : Bool) → eqb i p ≡ b → (d : Bool) → eqb i q ≡ d
          → get_or (places_turned P (ix r p) (ix r q) l) (ix r i) nan
          ≡ cond b (turn_of P (get_or l (ix r p) nan) (get_or l (ix r q) nan)).left
          (cond d (turn_of P (get_or l (ix r p) nan) (get_or l (ix r q) nan)).right (get_or l (ix r i) nan))
      place true f d h = rw (eqb-true i p f) (places_first P (ix r p) (ix r q) l (λ u. pq (g.apart r p r q hr pn hr qn u).1) bp)
      place false f true h = rw (eqb-true i q h) (places_second P (ix r p) (ix r q) l bq)
      place false f false h =
          places_other P (ix r p) (ix r q) l (ix r i)
          (λ u. eqb-false i p f (g.apart r i r p hr hi hr pn u).1)
          (λ u. eqb-false i q h (g.apart r i r q hr hi hr qn u).1)

  lines_past : (r k i : ℕ) (l : List Float) → r ≤ k → k < n → i < n → get_or (turn_lines (λ r. ix r p) (λ r. ix r q) P r l) (ix k i) nan ≡ get_or l (ix k i) nan
  unfolding turn_lines
  lines_past zero k i l h hk hi = refl
  lines_past (suc r) k i l h hk hi =
      line_other r k i (turn_lines (λ r. ix r p) (λ r. ix r q) P r l) (omega arith) hk hi (omega arith) ∙ lines_past r k i l (omega arith) hk hi

  -- each line below r is turned
  pub lines_done : (r k i : ℕ) (l : List Float) → length l ≡ N → r ≤ n → k < r → i < n
      → get_or (turn_lines (λ r. ix r p) (λ r. ix r q) P r l) (ix k i) nan
      ≡ turned_at P p q i (get_or l (ix k p) nan) (get_or l (ix k q) nan) (get_or l (ix k i) nan)
  unfolding turn_lines
  lines_done zero k i l e hr hk hi = absurd (omega arith)
  lines_done (suc r) k i l e hr hk hi =
      ⊎_elim
      (λ u.
      rw u
      (line_same r i (turn_lines (λ r. ix r p) (λ r. ix r q) P r l) (turned_length (λ r. ix r p) (λ r. ix r q) P l r ∙ e) hr hi
      ∙ rw (lines_past r r p l (omega arith) hr pn, lines_past r r q l (omega arith) hr qn, lines_past r r i l (omega arith) hr hi)))
      (λ u. line_other r k i (turn_lines (λ r. ix r p) (λ r. ix r q) P r l) hr (omega arith) hi (omega arith) ∙ lines_done r k i l e (omega arith) u hi)
      (eq-or-lt_of_le (le_of_suc-le-suc hk))
