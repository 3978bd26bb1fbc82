-- The refusals of a joining, in their order. Assumes nothing.
use Prim.Native.Nat.{ℕ, ◌<◌, ◌≤◌}
use mathlib.Core.Path.{◌≡◌, refl, ◌∙◌}
use mathlib.Core.Bool.{Bool, true, false, not}
use mathlib.Core.List.{List, [], ◌∷◌}
use native.Mathlib.Omega.{arith}
use borrow.Author.Tests.{lt-ltb, le-ltb, ltb-true, ltb-false, le-leb, lt-leb}
use lib.Dec.{leb, ltb}
use Rattle.refusal.specs.Answers.{Answered, given, refused, refused_by, or_else, row, table}
use Rattle.refusal.specs.declared.Refusal.TheVariants.{Order, TooShort, SharedCode}
use Rattle.refusal.proofs.FirstRefusal.{refused_given, both_given, row_given}
use Rattle.sizes.specs.Sizes.{largest_order, is_order, order_row}
use Rattle.sizes.proofs.Orders.{order_is, by_largest}
use Rattle.sheet.specs.Codes.{width_for}
use Rattle.sheet.specs.Format.{codes_in}
use Rattle.sheet.proofs.Forms.{width_for_fits}
use Rattle.sheet_reader.specs.Reader.{sheet_answer}
use Rattle.sheet_reader.proofs.AcceptedSheets.{readable_alone}
use Rattle.sheet_join.specs.Join.{joint_order, joint_length, shared_code, join_answer}

module _ (b d : List ℕ) (lb : ℕ) where
  -- the rows below those of the two sheets
  abbrev joint_rows : List (Answered Unit)
  joint_rows = row (shared_code (codes_in b) (codes_in d)) SharedCode ∷ order_row (joint_order b d) ∷ row (ltb lb (joint_length b d)) TooShort ∷ []

  pub by_sheets : join_answer b d lb ≡ or_else (sheet_answer b) (or_else (sheet_answer d) (table joint_rows))
  unfolding join_answer
  by_sheets = refl

  pub shared_refused : shared_code (codes_in b) (codes_in d) ≡ true → table joint_rows ≡ refused_by SharedCode
  shared_refused e = rw e

  pub order_refused : shared_code (codes_in b) (codes_in d) ≡ false → is_order (joint_order b d) ≡ false → table joint_rows ≡ refused_by Order
  order_refused e f = rw (e, f)

  pub no_room : shared_code (codes_in b) (codes_in d) ≡ false → is_order (joint_order b d) ≡ true → lb < joint_length b d
      → table joint_rows ≡ refused_by TooShort
  no_room e f h = rw (e, f, lt-ltb lb (joint_length b d) h)

  pub room_enough : shared_code (codes_in b) (codes_in d) ≡ false → is_order (joint_order b d) ≡ true → joint_length b d ≤ lb → table joint_rows ≡ given tt
  room_enough e f h = rw (e, f, le-ltb lb (joint_length b d) h)

-- a code in both of two accepted sheets
pub join_10 : (b d : List ℕ) (lb : ℕ) → given tt ≡ sheet_answer b → given tt ≡ sheet_answer d → shared_code (codes_in b) (codes_in d) ≡ true
    → refused_by SharedCode ≡ join_answer b d lb
unfolding join_answer
join_10 b d lb first second e = rw (← first, ← second, e)

-- what the test of the joint order says of it, and the form of the joint sheet
pub order_small : (n : ℕ) → is_order n ≡ true → n ≤ largest_order
order_small n e = (order_is n e).1

pub width_most : (codes : List ℕ) → width_for codes ≤ 2
width_most codes = (width_for_fits codes).1

-- What a verdict is proved by.
pub ruleset join_tests = (by_sheets, shared_refused, order_refused, no_room, room_enough, order_small, width_most)

-- what is known of two sheets that are joined
pub record Joinable (b d : List ℕ) (lb : ℕ) : Type 0 where
  pub first_good : sheet_answer b ≡ given tt
  pub second_good : sheet_answer d ≡ given tt
  pub apart : shared_code (codes_in b) (codes_in d) ≡ false
  pub order : is_order (joint_order b d) ≡ true
  pub room : joint_length b d ≤ lb

row_is_order : (x : Bool) → row (not x) Order ≡ given tt → x ≡ true
row_is_order true e = refl
row_is_order false e = refused_given e

pub joinable : (b d : List ℕ) (lb : ℕ) → join_answer b d lb ≡ given tt → Joinable b d lb
unfolding join_answer
joinable b d lb e =
    let first = both_given (sheet_answer b) _ e in
    let second = both_given (sheet_answer d) _ first.1 in
    let codes = both_given (row (shared_code (codes_in b) (codes_in d)) SharedCode) _ second.1 in
    let order = both_given (order_row (joint_order b d)) _ codes.1 in
    let room = both_given (row (ltb lb (joint_length b d)) TooShort) (given tt) order.1 in
    record {
      first_good = first.0;
      second_good = second.0;
      apart = row_given _ SharedCode codes.0;
      order = row_is_order _ order.0;
      room = ltb-false _ _ (row_given _ TooShort room.0);
    }

pub joined : (b d : List ℕ) (lb : ℕ) → Joinable b d lb → join_answer b d lb ≡ given tt
joined b d lb j = by_sheets b d lb ∙ rw (j.first_good, j.second_good) (room_enough b d lb j.apart j.order j.room)

-- ---- the joint order by the limit
-- what is below a row counts where that row refuses nothing
else_same : (a : Answered Unit) {x y : Answered Unit} → (a ≡ given tt → x ≡ y) → or_else a x ≡ or_else a y
else_same (given tt) f = f refl
else_same (refused k values) f = refl

above_largest : (n : ℕ) → 2 ≤ n → not (is_order n) ≡ ltb largest_order n
above_largest n h = rw (← (by_largest n h)) (go (ltb largest_order n) refl)
  where
    go : (x : Bool) → ltb largest_order n ≡ x → not (leb n largest_order) ≡ x
    go true e = rw (lt-leb n largest_order (ltb-true _ _ e))
    go false e = rw (le-leb n largest_order (ltb-false _ _ e))

-- the orders of accepted sheets are 2 or more, and so is their sum
pub by_limit : (b d : List ℕ) (lb : ℕ)
    → join_answer b d lb
    ≡ table
    (sheet_answer b ∷ sheet_answer d ∷ row (shared_code (codes_in b) (codes_in d)) SharedCode ∷ row (ltb largest_order (joint_order b d)) Order
    ∷ row (ltb lb (joint_length b d)) TooShort ∷ [])
unfolding join_answer
by_limit b d lb = else_same (sheet_answer b) (λ e. else_same (sheet_answer d) (λ f. rw (above_largest (joint_order b d) (enough e))))
  where
    enough : sheet_answer b ≡ given tt → 2 ≤ joint_order b d
    enough e = let o = order_is _ (readable_alone b e).order in omega (arith, o.0)
