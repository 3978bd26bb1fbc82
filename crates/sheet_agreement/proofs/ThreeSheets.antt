-- What is known of three sheets that are joined, whichever pair is joined first. Assumes nothing.
use Prim.Native.Nat.{ℕ, ◌+◌, ◌≤◌, max}
use mathlib.Core.Path.{◌≡◌, refl, sym, ◌∙◌}
use mathlib.Core.Bool.{true, false}
use mathlib.Core.List.{List, ◌++◌, append_assoc}
use native.Mathlib.Nat.{add_assoc}
use native.Mathlib.Omega.{arith}
use borrow.Author.Tests.{le-leb}
use lib.Ieee.{Float}
use Rattle.refusal.specs.Answers.{given}
use Rattle.lists.proofs.Bounded.{or_false, false_or}
use Rattle.sizes.specs.Sizes.{is_order, largest_order}
use Rattle.sizes.proofs.Orders.{order_is, by_largest}
use Rattle.matrix.specs.Matrix.{at, flat}
use Rattle.matrix.proofs.SameEntries.{Same, flat_same}
use Rattle.sheet.specs.Format.{sheet_of, order_in, sweeps_in, codes_in, entry_in, length_for}
use Rattle.sheet_reader.specs.Reader.{sheet_answer}
use Rattle.sheet_reader.proofs.AcceptedSheets.{readable_alone}
use Rattle.sheet_join.specs.Join.{joint_order, joint_sweeps, joint_codes, joint_matrix, blocks, shared_code, join_answer}
use Rattle.sheet_join.proofs.Tables.{joinable, joined}
use Rattle.sheet_agreement.proofs.BlocksAgain.{blocks_same, blocks_again}
use Rattle.sheet_agreement.proofs.JointSheets.{Bytes, joint_sheet, joint_order_lem, joint_sweeps_lem, joint_codes_lem, joint_entry, joint_accepted}
use Rattle.sheet_agreement.proofs.SharedCodes.{shared_first, shared_second, wider, longer}

-- ---- two sheets, by what is read from them
record Reads (s : List ℕ) (n sweeps : ℕ) (codes : List ℕ) (A : ℕ → ℕ → Float) : Type 0 where
  order_read : order_in s ≡ n
  sweeps_read : sweeps_in s ≡ sweeps
  codes_read : codes_in s ≡ codes
  entries_read : Same n (entry_in s) A

abbrev sheet_by : ℕ → ℕ → List ℕ → (ℕ → ℕ → Float) → List ℕ
sheet_by n sweeps codes A = sheet_of n sweeps codes (at n (flat n A))

as_it_is : (s : List ℕ) → Reads s (order_in s) (sweeps_in s) (codes_in s) (entry_in s)
as_it_is s = record { order_read = refl; sweeps_read = refl; codes_read = refl; entries_read = λ i j hi hj. refl }

as_joint : (s t : List ℕ) → Bytes s → Bytes t → (lb : ℕ) → join_answer s t lb ≡ given tt
    → Reads (joint_sheet s t) (joint_order s t) (joint_sweeps s t) (codes_in s ++ codes_in t) (blocks (order_in s) (entry_in s) (entry_in t))
unfolding joint_codes
as_joint s t small small' lb e =
    record {
      order_read = joint_order_lem s t small small' lb e;
      sweeps_read = joint_sweeps_lem s t small small' lb e;
      codes_read = joint_codes_lem s t small small' lb e;
      entries_read = joint_entry s t small small' lb e;
    }

module _ {s t codes others : List ℕ} {n m k l : ℕ} {A B : ℕ → ℕ → Float} (r : Reads s n k codes A) (u : Reads t m l others B) where
  joint_by : joint_sheet s t ≡ sheet_by (n + m) (max k l) (codes ++ others) (blocks n A B)
  unfolding joint_codes joint_matrix
  joint_by =
      rw (
        r.order_read,
        u.order_read,
        r.sweeps_read,
        u.sweeps_read,
        r.codes_read,
        u.codes_read,
        flat_same (n + m) _ _ (blocks_same n m r.entries_read u.entries_read),
      )

  -- what is known where they are joined
  abbrev Both : ℕ → Type 0
  Both lb =
      (sheet_answer s ≡ given tt) × (sheet_answer t ≡ given tt) × (shared_code codes others ≡ false) × (is_order (n + m) ≡ true)
      × (length_for (n + m) (codes ++ others) ≤ lb)

  both_to : (lb : ℕ) → join_answer s t lb ≡ given tt → Both lb
  unfolding joint_codes
  both_to lb e =
      let v = joinable s t lb e in
      rw (← r.order_read, ← u.order_read, ← r.codes_read, ← u.codes_read) (v.first_good, v.second_good, v.apart, v.order, v.room)

  both_from : (lb : ℕ) → Both lb → join_answer s t lb ≡ given tt
  unfolding joint_codes
  both_from lb v =
      let w = rw (← r.order_read, ← u.order_read, ← r.codes_read, ← u.codes_read) at v in
      joined s t lb (record { first_good = w.0; second_good = w.1; apart = w.2; order = w.3; room = w.4 })

-- ---- three sheets
-- a sum that is part of an order is one
sum_order : (n m whole : ℕ) → is_order n ≡ true → n + m ≤ whole → is_order whole ≡ true → is_order (n + m) ≡ true
sum_order n m whole e h f =
    let o = order_is n e in
    let most : n + m ≤ largest_order = omega (arith, (order_is whole f).1) in
    sym (by_largest (n + m) (omega (arith, o.0))) ∙ le-leb (n + m) largest_order most

-- what is known of them, in no order of joining
pub record Three (a b c : List ℕ) : Type 0 where
  first_good : sheet_answer a ≡ given tt
  second_good : sheet_answer b ≡ given tt
  third_good : sheet_answer c ≡ given tt
  first_second : shared_code (codes_in a) (codes_in b) ≡ false
  first_third : shared_code (codes_in a) (codes_in c) ≡ false
  second_third : shared_code (codes_in b) (codes_in c) ≡ false
  order : is_order (order_in a + (order_in b + order_in c)) ≡ true

-- the joint sheet of the three, and its length
abbrev pub three_sheet : List ℕ → List ℕ → List ℕ → List ℕ
three_sheet a b c =
    sheet_by (order_in a + (order_in b + order_in c)) (max (sweeps_in a) (max (sweeps_in b) (sweeps_in c))) (codes_in a ++ (codes_in b ++ codes_in c))
    (blocks (order_in a) (entry_in a) (blocks (order_in b) (entry_in b) (entry_in c)))

abbrev pub three_length : List ℕ → List ℕ → List ℕ → ℕ
three_length a b c = length_for (order_in a + (order_in b + order_in c)) (codes_in a ++ (codes_in b ++ codes_in c))

module _ (a b c : List ℕ) (bytes-a : Bytes a) (bytes-b : Bytes b) (bytes-c : Bytes c) where
  -- the first pair is joined first, or the second pair
  pub from_first : (p q : ℕ) → join_answer a b p ≡ given tt → join_answer (joint_sheet a b) c q ≡ given tt → Three a b c
  from_first p q e f =
      let v = joinable a b p e in
      let w = both_to (as_joint a b bytes-a bytes-b p e) (as_it_is c) q f in
      let apart = or_false _ _ (sym (shared_first (codes_in a) (codes_in b) (codes_in c)) ∙ w.2) in
      record {
        first_good = v.first_good;
        second_good = v.second_good;
        third_good = w.1;
        first_second = v.apart;
        first_third = apart.0;
        second_third = apart.1;
        order = rw add_assoc at w.3;
      }

  pub from_second : (p q : ℕ) → join_answer b c p ≡ given tt → join_answer a (joint_sheet b c) q ≡ given tt → Three a b c
  from_second p q e f =
      let v = joinable b c p e in
      let w = both_to (as_it_is a) (as_joint b c bytes-b bytes-c p e) q f in
      let apart = or_false _ _ (sym (shared_second (codes_in b) (codes_in c) (codes_in a)) ∙ w.2) in
      record {
        first_good = w.0;
        second_good = v.first_good;
        third_good = v.second_good;
        first_second = apart.0;
        first_third = apart.1;
        second_third = v.apart;
        order = w.3;
      }

  -- the sheet is the same
  pub by_first : (p : ℕ) → join_answer a b p ≡ given tt → joint_sheet (joint_sheet a b) c ≡ three_sheet a b c
  by_first p e =
      let most : max (max (sweeps_in a) (sweeps_in b)) (sweeps_in c) ≡ max (sweeps_in a) (max (sweeps_in b) (sweeps_in c)) = omega arith in
      joint_by (as_joint a b bytes-a bytes-b p e) (as_it_is c) ∙ rw (blocks_again, add_assoc, append_assoc, most)

  pub by_second : (p : ℕ) → join_answer b c p ≡ given tt → joint_sheet a (joint_sheet b c) ≡ three_sheet a b c
  by_second p e = joint_by (as_it_is a) (as_joint b c bytes-b bytes-c p e)

  -- both ways are accepted where there is room
  module _ (known : Three a b c) (p q : ℕ) (room : three_length a b c ≤ p) (room' : three_length a b c ≤ q) where
    abbrev n : ℕ
    n = order_in a + (order_in b + order_in c)

    abbrev codes : List ℕ
    codes = codes_in a ++ (codes_in b ++ codes_in c)

    pub to_first : (join_answer a b p ≡ given tt) × (join_answer (joint_sheet a b) c q ≡ given tt)
    to_first = (inner, outer)
      where
        order : is_order (order_in a + order_in b) ≡ true
        order = sum_order (order_in a) (order_in b) n (readable_alone a known.first_good).order (omega arith) known.order

        long : length_for (order_in a + order_in b) (codes_in a ++ codes_in b) ≤ three_length a b c
        long =
            let part = rw append_assoc at (wider (codes_in a ++ codes_in b) (codes_in c)).0 in
            longer (order_in a + order_in b) n (codes_in a ++ codes_in b) codes (omega arith) part

        inner : join_answer a b p ≡ given tt
        inner = both_from (as_it_is a) (as_it_is b) p (known.first_good, known.second_good, known.first_second, order, omega (arith, long))

        outer : join_answer (joint_sheet a b) c q ≡ given tt
        outer =
            let apart = shared_first (codes_in a) (codes_in b) (codes_in c) ∙ false_or _ _ known.first_third known.second_third in
            let sum = add_assoc (order_in a) (order_in b) (order_in c) in
            both_from (as_joint a b bytes-a bytes-b p inner) (as_it_is c) q
            (joint_accepted a b bytes-a bytes-b p inner, known.third_good, apart, rw sum known.order, rw (sum, append_assoc) room')

    pub to_second : (join_answer b c p ≡ given tt) × (join_answer a (joint_sheet b c) q ≡ given tt)
    to_second = (inner, outer)
      where
        order : is_order (order_in b + order_in c) ≡ true
        order = sum_order (order_in b) (order_in c) n (readable_alone b known.second_good).order (omega arith) known.order

        long : length_for (order_in b + order_in c) (codes_in b ++ codes_in c) ≤ three_length a b c
        long = longer (order_in b + order_in c) n (codes_in b ++ codes_in c) codes (omega arith) (wider (codes_in a) (codes_in b ++ codes_in c)).1

        inner : join_answer b c p ≡ given tt
        inner = both_from (as_it_is b) (as_it_is c) p (known.second_good, known.third_good, known.second_third, order, omega (arith, long))

        outer : join_answer a (joint_sheet b c) q ≡ given tt
        outer =
            let apart = shared_second (codes_in b) (codes_in c) (codes_in a) ∙ false_or _ _ known.first_second known.first_third in
            both_from (as_it_is a) (as_joint b c bytes-b bytes-c p inner) q
            (known.first_good, joint_accepted b c bytes-b bytes-c p inner, apart, known.order, room')
