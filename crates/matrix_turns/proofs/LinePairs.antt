-- When p and q are two lines of a matrix, and what a turn of them leaves. Assumes nothing.
use Prim.Native.Nat.{ℕ, ◌*◌, ◌≤◌}
use mathlib.Core.Path.{◌≡◌, refl, sym}
use mathlib.Core.Bool.{Bool, true, false, not, ◌&&◌, true≢false}
use mathlib.Core.List.{List}
use mathlib.Core.Logic.{◌≢◌}
use borrow.Author.Tests.{eqb-false, ne_eqb}
use lib.Dec.{eqb}
use lib.ListN.{length}
use lib.Ieee.{Float}
use Rattle.matrix.specs.Matrix.{at, flat, is_place, entry_of}
use Rattle.matrix.proofs.EntryPlaces.{are_place, place_is, entry_at}
use Rattle.matrix.proofs.SameEntries.{Line}
use Rattle.matrix_turns.specs.Turns.{two_lines, on_lines}

pub record Two (n p q d : ℕ) : Type 0 where
  pub first_above : 1 ≤ p
  pub first_within : p ≤ n
  pub second_above : 1 ≤ q
  pub second_within : q ≤ n
  pub apart : p ≢ q
  pub long : d ≡ n * n

module _ (n p q d : ℕ) where
  pub are_two : two_lines n p q d ≡ true → Two n p q d
  unfolding two_lines
  are_two e = go (eqb p q) (is_place n p q d) refl refl e
    where
      go : (a b : Bool) → eqb p q ≡ a → is_place n p q d ≡ b → (not a && b) ≡ true → Two n p q d
      go true b x y e = absurd (true≢false (sym e))
      go false false x y e = absurd (true≢false (sym e))
      go false true x y e =
          let t = are_place n p q d y in
          record {
            first_above = t.row_above;
            first_within = t.row_within;
            second_above = t.column_above;
            second_within = t.column_within;
            apart = eqb-false _ _ x;
            long = t.square;
          }

  pub two_are : Two n p q d → two_lines n p q d ≡ true
  unfolding two_lines
  two_are t =
      rw (ne_eqb p q t.apart)
      (place_is n p q d (record {
        row_above = t.first_above;
        row_within = t.first_within;
        column_above = t.second_above;
        column_within = t.second_within;
        square = t.long;
      }))

pub two_lines_lem : (n p q d : ℕ) → (1 ≤ p) × (p ≤ n) × (1 ≤ q) × (q ≤ n) × (¬ (p ≡ q)) → d ≡ n * n → two_lines n p q d ≡ true
two_lines_lem n p q d h long =
    two_are n p q d
    (record { first_above = h.0; first_within = h.1; second_above = h.2; second_within = h.3; apart = h.4; long = long })

pub two_as : (n p q : ℕ) {d d' : ℕ} → two_lines n p q d ≡ true → d' ≡ d → two_lines n p q d' ≡ true
two_as n p q h e = rw e h

pub first_line_lem : {n p q d : ℕ} → Two n p q d → Line n p
first_line_lem t = (t.first_above, t.first_within)

pub second_line_lem : {n p q d : ℕ} → Two n p q d → Line n q
second_line_lem t = (t.second_above, t.second_within)

-- ---- the entries of a pair
pub pair_entries : (n p q : ℕ) (l : List Float) → two_lines n p q (length l) ≡ true
    → (entry_of n l p p ≡ at n l p p) × (entry_of n l q q ≡ at n l q q) × (entry_of n l p q ≡ at n l p q)
pair_entries n p q l e =
    let t = are_two n p q (length l) e in
    let p1 = t.first_above in
    let pn = t.first_within in
    let q1 = t.second_above in
    let qn = t.second_within in
    (there p p p1 pn p1 pn t.long, there q q q1 qn q1 qn t.long, there p q p1 pn q1 qn t.long)
  where
    there : (r c : ℕ) → 1 ≤ r → r ≤ n → 1 ≤ c → c ≤ n → length l ≡ n * n → entry_of n l r c ≡ at n l r c
    there r c r1 rn c1 cn long =
        entry_at n r c l (place_is n r c (length l) (record { row_above = r1; row_within = rn; column_above = c1; column_within = cn; square = long }))

-- what is found from three entries
pub from_three : {X : Type 0} (f : Float → Float → Float → X) {a a' d d' b b' : Float} → a ≡ a' → d ≡ d' → b ≡ b' → f a d b ≡ f a' d' b'
from_three f e g h = rw (e, g, h)

-- ---- what a turn leaves
module _ (n p q : ℕ) (turn : (ℕ → ℕ → Float) → ℕ → ℕ → Float) (l : List Float) where
  pub left_alone : two_lines n p q (length l) ≡ false → l ≡ on_lines n p q turn l
  unfolding on_lines
  left_alone e = rw e

  pub on_lines_lem : two_lines n p q (length l) ≡ true → flat n (turn (at n l)) ≡ on_lines n p q turn l
  unfolding on_lines
  on_lines_lem e = rw e

  -- a turn of lines that there are
  pub turned_flat : two_lines n p q (length l) ≡ true → on_lines n p q turn l ≡ flat n (turn (at n l))
  turned_flat e = sym (on_lines_lem e)
