-- What the loops over the lines leave is the row turn and the column turn. Assumes nothing.
use Prim.Native.Nat.{ℕ, ◌+◌, ◌-◌, ◌*◌, ◌<◌, ◌≤◌}
use mathlib.Core.Path.{◌≡◌, refl, sym, ap, ◌∙◌}
use mathlib.Core.Bool.{Bool, true, false}
use mathlib.Core.List.{List}
use mathlib.Core.Logic.{◌≢◌}
use native.Mathlib.Omega.{arith}
use native.Mathlib.Nat.{le_refl}
use borrow.Author.Tests.{eqb-true, eqb-false, eq-eqb, ne_eqb}
use lib.Arith.{digits_lt}
use lib.Dec.{eqb}
use lib.ListN.{length, get_or}
use lib.Ieee.{Float, nan}
use Rattle.rotation.specs.declared.Parameters.{Parameters}
use Rattle.matrix.specs.Matrix.{at, flat}
use Rattle.matrix_turns.specs.Turns.{two_lines, turned_at, on_lines, row_turn_all, column_turn_all, turn_lines}
use Rattle.matrix.proofs.Flat.{index_one, at_offset, flat_is}
use Rattle.matrix_turns.proofs.LinePairs.{Two, are_two, left_alone, on_lines_lem}
use Rattle.matrix_turns.proofs.TurnedLines.{Grid, turned_length, lines_done}

-- ---- where the places of a line are
abbrev in_column : ℕ → ℕ → ℕ → ℕ
in_column n r i = i * n + r * 1

abbrev in_row : ℕ → ℕ → ℕ → ℕ
in_row n r i = i + r * n

column_place : (n r i : ℕ) → in_column n r i ≡ i * n + r
column_place n r i = omega arith

row_place : (n r i : ℕ) → in_row n r i ≡ r * n + i
row_place n r i = omega arith

module _ (n : ℕ) where
  columns : Grid n (n * n) (in_column n)
  columns = record {
    inside = λ r i hr hi. rw (column_place n r i) (digits_lt hi hr);
    apart = λ r i r' i' hr hi hr' hi' e. let t = index_one n i r i' r' hr hr' (sym (column_place n r i) ∙ e ∙ column_place n r' i') in (t.1, t.0);
  }

  rows : Grid n (n * n) (in_row n)
  rows = record {
    inside = λ r i hr hi. rw (row_place n r i) (digits_lt hr hi);
    apart = λ r i r' i' hr hi hr' hi' e. index_one n r i r' i' hi hi' (sym (row_place n r i) ∙ e ∙ row_place n r' i');
  }

at_column : (n : ℕ) (l : List Float) (i j : ℕ) → at n l (i + 1) (j + 1) ≡ get_or l (in_column n j i) nan
at_column n l i j = at_offset n l i j ∙ ap (λ (k : ℕ). get_or l k nan) (sym (column_place n j i))

at_row : (n : ℕ) (l : List Float) (i j : ℕ) → at n l (i + 1) (j + 1) ≡ get_or l (in_row n i j) nan
at_row n l i j = at_offset n l i j ∙ ap (λ (k : ℕ). get_or l k nan) (sym (row_place n i j))

-- offsets are equal where the numbers from 1 are
from_1 : (i j : ℕ) → eqb (i + 1) (j + 1) ≡ eqb i j
from_1 i j = go (eqb i j) refl
  where
    go : (b : Bool) → eqb i j ≡ b → eqb (i + 1) (j + 1) ≡ b
    go true e = let z : i ≡ j = eqb-true _ _ e in eq-eqb (i + 1) (j + 1) (omega arith)
    go false e = ne_eqb (i + 1) (j + 1) (λ z. eqb-false i j e (omega arith))

turned_from_1 : (P : Parameters) (p q i : ℕ) (x y z : Float) → turned_at P (p + 1) (q + 1) (i + 1) x y z ≡ turned_at P p q i x y z
unfolding turned_at
turned_from_1 P p q i x y z = rw (from_1 i p, from_1 i q)

module _ (n p q : ℕ) (l : List Float) (long : length l ≡ n * n) (pn : p < n) (qn : q < n) where
  columns_within : (r : ℕ) → r < n → (in_column n r p < length l) × (in_column n r q < length l)
  columns_within r h = rw long ((columns n).inside r p h pn, (columns n).inside r q h qn)

  rows_within : (r : ℕ) → r < n → (in_row n r p < length l) × (in_row n r q < length l)
  rows_within r h = rw long ((rows n).inside r p h pn, (rows n).inside r q h qn)

module _ (P : Parameters) (n p q : ℕ) (l : List Float) (long : length l ≡ n * n) (pn : p < n) (qn : q < n) (pq : p ≢ q) where
  rows_from_0 : turn_lines (λ r. in_column n r p) (λ r. in_column n r q) P n l ≡ flat n (row_turn_all P (p + 1) (q + 1) (at n l))
  unfolding row_turn_all
  rows_from_0 =
      flat_is n _ _ (turned_length _ _ P l n ∙ long)
      (λ i j hi hj. at_column n _ i j ∙ lines_done (in_column n) (columns n) P p q pn qn pq n j i l long (le_refl n) hj hi
      ∙ rw (turned_from_1 P p q i, at_column n l i j, at_column n l p j, at_column n l q j))

  columns_from_0 : turn_lines (λ r. in_row n r p) (λ r. in_row n r q) P n l ≡ flat n (column_turn_all P (p + 1) (q + 1) (at n l))
  unfolding column_turn_all
  columns_from_0 =
      flat_is n _ _ (turned_length _ _ P l n ∙ long)
      (λ i j hi hj. at_row n _ i j ∙ lines_done (in_row n) (rows n) P p q pn qn pq n i j l long (le_refl n) hi hj
      ∙ rw (turned_from_1 P p q j, at_row n l i j, at_row n l i p, at_row n l i q))

-- ---- the lines p and q, from 1
module _ (n p q : ℕ) (l : List Float) (there : two_lines n p q (length l) ≡ true) where
  t : Two n p q (length l)
  t = are_two n p q (length l) there

  first_below : p - 1 < n
  first_below = let a = t.first_above in let b = t.first_within in omega arith

  second_below : q - 1 < n
  second_below = let a = t.second_above in let b = t.second_within in omega arith

  offsets_apart : p - 1 ≢ q - 1
  offsets_apart e = t.apart (let a = t.first_above in let b = t.second_above in omega arith)

  first_again : p - 1 + 1 ≡ p
  first_again = let a = t.first_above in omega arith

  second_again : q - 1 + 1 ≡ q
  second_again = let a = t.second_above in omega arith

  -- where the lines begin, as rows and as columns
  pub begin_within : ((p - 1) * n < length l) × ((q - 1) * n < length l) × (1 ≤ p) × (1 ≤ q)
  begin_within = (rw t.long (below (p - 1) first_below), rw t.long (below (q - 1) second_below), t.first_above, t.second_above)
    where
      below : (i : ℕ) → i < n → i * n < n * n
      below i h = let w = digits_lt {q = i} {m = n} {r = 0} {c = n} h (omega arith) in omega arith

  pub in_columns : (r : ℕ) → r < n → (in_column n r (p - 1) < length l) × (in_column n r (q - 1) < length l)
  in_columns = columns_within n (p - 1) (q - 1) l t.long first_below second_below

  pub in_rows : (r : ℕ) → r < n → (in_row n r (p - 1) < length l) × (in_row n r (q - 1) < length l)
  in_rows = rows_within n (p - 1) (q - 1) l t.long first_below second_below

  module _ (P : Parameters) {l' : List Float} where
    pub rows_turned_lem : l' ≡ turn_lines (λ r. in_column n r (p - 1)) (λ r. in_column n r (q - 1)) P n l → l' ≡ on_lines n p q (row_turn_all P p q) l
    rows_turned_lem e =
        e ∙ rw (first_again, second_again) at (rows_from_0 P n (p - 1) (q - 1) l t.long first_below second_below offsets_apart)
        ∙ on_lines_lem n p q (row_turn_all P p q) l there

    pub columns_turned_lem : l' ≡ turn_lines (λ r. in_row n r (p - 1)) (λ r. in_row n r (q - 1)) P n l → l' ≡ on_lines n p q (column_turn_all P p q) l
    columns_turned_lem e =
        e ∙ rw (first_again, second_again) at (columns_from_0 P n (p - 1) (q - 1) l t.long first_below second_below offsets_apart)
        ∙ on_lines_lem n p q (column_turn_all P p q) l there

-- What a row turn and a column turn are proved by.
pub ruleset row_turns = (left_alone, begin_within, in_columns, rows_turned_lem)

pub ruleset column_turns = (left_alone, begin_within, in_rows, columns_turned_lem)
