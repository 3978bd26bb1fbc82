-- Document 02 (viii) on joining, each part by the law that proves it. Assumes nothing.
use Prim.Native.Nat.{ℕ, ◌+◌, ◌-◌}
use mathlib.Core.Path.{◌≡◌, refl, sym, ◌∙◌}
use mathlib.Core.List.{List, ◌++◌}
use native.Mathlib.Omega.{arith}
use lib.ListN.{length}
use Rattle.refusal.specs.Answers.{given}
use Rattle.matrix.proofs.SameEntries.{read_again}
use Rattle.sheet.specs.Format.{order_in, sweeps_in, codes_in, entry_in}
use Rattle.sheet.proofs.Forms.{fits_short, fits_long, first_long, first_of_one}
use Rattle.sheet_reader.specs.Reader.{read_outcome, content_of}
use Rattle.sheet_reader.proofs.Tables.{readable}
use Rattle.sheet_join.specs.Join.{joint_order, joint_sweeps, joint_codes, joint_matrix, joint_length}
use Rattle.sheet_join.proofs.JointContents.{placed, in_first, in_second, below_first, right_of_first}
use Rattle.sheet_agreement.proofs.RoundTrip.{first_back, reads}
use Rattle.sheet_agreement.proofs.JointSheets as joint
use Rattle.sheet_agreement.proofs.JoinedThrice.{first_then_second, second_then_first}
use Rattle.claims.specs.JoinedSheets.{BothInPlace, ReadBack, LeftAsWritten, FormOfBoth, FormAsDemanded, JoiningsAsStated}

-- ---- of the two contents
module _ (b d : List ℕ) where
  abbrev n : ℕ
  n = order_in b

  abbrev m : ℕ
  m = order_in d

  in_place : BothInPlace n m (sweeps_in b) (sweeps_in d) (content_of b) (content_of d)
      (read_outcome (given (joint_order b d, joint_sweeps b d)) (joint_codes b d) (joint_matrix b d))
  unfolding content_of joint_codes
  in_place =
      record {
        sizes = refl;
        code_lists = refl;
        first_triangles = λ i j h o h' o'. placed b d i j (h, omega arith) (h', omega arith) ∙ in_first n _ _ i j o o'
            ∙ sym (read_again n (entry_in b) i j (h, o) (h', o'));
        second_triangles = λ i j h o h' o'. let y : n + i - n ≡ i = omega arith in let z : n + j - n ≡ j = omega arith in
            placed b d (n + i) (n + j) (omega arith, omega arith) (omega arith, omega arith)
            ∙ in_second n _ _ (n + i) (n + j) (omega arith) (omega arith) ∙ rw (y, z) (sym (read_again m (entry_in d) i j (h, o) (h', o')));
        between_the_groups = λ i j h o h' o'. (
          placed b d i (n + j) (h, omega arith) (omega arith, omega arith) ∙ right_of_first n _ _ i (n + j) o (omega arith),
          placed b d (n + j) i (omega arith, omega arith) (h, omega arith) ∙ below_first n _ _ (n + j) i (omega arith) o,
        );
      }

  of_form : FormOfBoth (n + m) (joint_length b d) (codes_in b ++ codes_in d) (joint.joint_sheet b d)
  unfolding joint_codes
  of_form =
      record {
        short = λ h. let w = fits_short (codes_in b ++ codes_in d) h in (first_back _ _ _ _ ∙ first_of_one _ (n + m) w, rw w);
        long = λ k h o. let w = fits_long (codes_in b ++ codes_in d) k h o in (first_back _ _ _ _ ∙ sym (first_long _ (n + m) w), rw w);
      }

-- ---- of what the calls leave
read_back : ReadBack
read_back b d l c c' c'' k k' k'' n m s t count small small' e e' o lc lk =
    let x = reads b c k n s e in
    let y = reads d c' k' m t e' in
    let r = joint.joint_read b d small small' (length l) (joint.joins b d l count o).0 c'' k'' (rw (x.2, y.2) lc) (rw (x.2, y.2) lk) in
    rw (x.1, y.1, joint.joint_left b d l count o, r, ← x.2, ← x.3, ← y.2, ← y.3) (in_place b d)

left_as_written : LeftAsWritten
left_as_written b d l c k n s count small small' o e =
    let accepted = (joint.joins b d l count o).0 in
    let x = reads (joint.joint_sheet b d) c k n s (rw (joint.joint_left b d l count o) at e) in
    let lent = readable _ _ _ x.0 in
    let order = joint.joint_order_lem b d small small' (length l) accepted in
    let r = joint.joint_read b d small small' (length l) accepted c k (lent.codes_long ∙ order) (lent.matrix_long ∙ rw order) in
    rw (joint.joint_left b d l count o, r, ← x.2, ← x.3, order, joint.joint_sweeps_lem b d small small' (length l) accepted)
    (joint.join_as_writing b d l count small small' o)

form_as_demanded : FormAsDemanded
form_as_demanded b d l c c' k k' n m s t count small small' e e' o =
    let x = reads b c k n s e in
    let y = reads d c' k' m t e' in
    rw (x.1, y.1, joint.joint_left b d l count o, ← x.2, ← y.2, (joint.joins b d l count o).2) (unfold content_of in (of_form b d))

pub joinings_as_stated : JoiningsAsStated
joinings_as_stated =
    record {
      read_back = read_back;
      left_as_written = left_as_written;
      form_as_demanded = form_as_demanded;
      either_pair_first = λ a b c f g h.
          record { first_pair_first = first_then_second a b c f g h; second_pair_first = second_then_first a b c f g h };
    }
