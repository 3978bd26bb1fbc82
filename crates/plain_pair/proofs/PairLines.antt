-- When two lists have a pair, and what is left in them then. Assumes nothing.
use Prim.Native.Nat.{ℕ, ◌*◌}
use mathlib.Core.Path.{◌≡◌, sym, ap, ◌∙◌}
use mathlib.Core.Bool.{true}
use mathlib.Core.List.{List}
use borrow.Author.Tests.{eq-eqb}
use lib.ListN.{length}
use lib.Ieee.{Float}
use Rattle.rotation.specs.declared.Parameters.{Parameters}
use Rattle.matrix.specs.Matrix.{is_place}
use Rattle.matrix.proofs.EntryPlaces.{place_is}
use Rattle.matrix_turns.specs.Turns.{two_lines}
use Rattle.matrix_turns.proofs.LinePairs.{Two, are_two, two_as}
use Rattle.plain_pair.specs.Pair.{state_turned, state_of, Held, has_pair, TwoLists, two_lists, pair_of}

-- the lines of a pair, by a length and by the order
pub two_square : (n p q d : ℕ) → two_lines n p q d ≡ true → (two_lines n p q (n * n) ≡ true) × (d ≡ n * n)
two_square n p q d e = let t = are_two n p q d e in (two_as n p q e (sym t.long), t.long)

-- the four entries of a pair
module _ (n p q d : ℕ) (two : two_lines n p q (n * n) ≡ true) (long : d ≡ n * n) where
  t : Two n p q (n * n)
  t = are_two n p q (n * n) two

  pub first_place : is_place n p p d ≡ true
  first_place =
      place_is n p p d
      (record { row_above = t.first_above; row_within = t.first_within; column_above = t.first_above; column_within = t.first_within; square = long })

  pub second_place : is_place n q q d ≡ true
  second_place =
      place_is n q q d
      (record { row_above = t.second_above; row_within = t.second_within; column_above = t.second_above; column_within = t.second_within; square = long })

  pub upper_place : is_place n p q d ≡ true
  upper_place =
      place_is n p q d
      (record { row_above = t.first_above; row_within = t.first_within; column_above = t.second_above; column_within = t.second_within; square = long })

  pub lower_place : is_place n q p d ≡ true
  lower_place =
      place_is n q p d
      (record { row_above = t.second_above; row_within = t.second_within; column_above = t.first_above; column_within = t.first_within; square = long })

-- What the writes of a pair's entries are proved by.
pub ruleset pair_places = (first_place, second_place, upper_place, lower_place)

module _ (n p q first second : ℕ) where
  pub pair_there : two_lines n p q first ≡ true → second ≡ n * n → has_pair n p q first second ≡ true
  unfolding has_pair
  pair_there e z = rw (eq-eqb second first (z ∙ sym (are_two n p q first e).long)) e

module _ (P : Parameters) (n p q : ℕ) (l e : List Float) where
  module _ {l' e' : List Float} where
    -- a pair turned, from the lists
    pub pair_held : two_lines n p q (length l) ≡ true → length e ≡ n * n → two_lists l' e' ≡ pair_of P n p q l e
        → Held n l' e' (state_turned P p q (state_of n l e))
    unfolding pair_of
    pair_held two long f =
        let w = rw (pair_there n p q (length l) (length e) two long) at f in
        record { matrix_held = ap (λ (x : TwoLists). x.matrix_list) w; vectors_held = ap (λ (x : TwoLists). x.vectors_list) w }
