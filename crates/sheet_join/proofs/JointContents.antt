-- What stands where in the joint content of two sheets. Assumes nothing.
use Prim.Native.Nat.{ℕ, zero, suc, max, ◌+◌, ◌-◌, ◌*◌, ◌^◌, ◌<◌, ◌≤◌}
use mathlib.Core.Path.{◌≡◌, refl, sym, ap, ◌∙◌}
use mathlib.Core.Bool.{Bool, true, false, cond, ◌||◌}
use mathlib.Core.List.{List, [], ◌∷◌, ◌++◌}
use native.Mathlib.Omega.{arith}
use borrow.Author.Tests.{lt-ltb, le-ltb}
use lib.Dec.{ltb}
use lib.ListN.{length, get_or, length-append, get_or-append}
use lib.Ieee.{Float, binary64, of_bits, to_bits}
use Rattle.float64.specs.Values.{plus_zero}
use Rattle.refusal.specs.Answers.{given}
use Rattle.lists.specs.Bounded.{any}
use Rattle.sheet.specs.Codes.{long_codes, width_for}
use Rattle.matrix.specs.Matrix.{at}
use Rattle.matrix.proofs.SameEntries.{Same, read_again}
use Rattle.sheet.specs.Format.{width_in, order_in, code_in, codes_in, pattern_in, entry_in}
use Rattle.sheet.proofs.Forms.{width_fits}
use Rattle.sheet.proofs.Words.{word_below}
use Rattle.sheet_reader.specs.Reader.{sheet_answer}
use Rattle.sheet_reader.proofs.AcceptedSheets.{readable_alone, pattern_fits, width_kept, code_room, code_found}
use Rattle.sheet_reader.proofs.SheetContents.{codes_count, code_at}
use Rattle.sheet.proofs.ListTests.{any_same, any_ranged}
use Rattle.std.proofs.Math.Bool.{or_assoc, or-false}
use Rattle.std.specs.List.{list_any, range_with_len}
use Rattle.sheet_join.specs.Join.{joint_order, joint_codes, joint_matrix, blocks}

-- ---- two lists, one after the other
pub get_d_after : (l m : List ℕ) (k : ℕ) → length l ≤ k → get_or (l ++ m) k 0 ≡ get_or m (k - length l) 0
get_d_after [] m k h = let e : k - 0 ≡ k = omega arith in rw e
get_d_after (x ∷ l) m zero h = absurd (omega arith)
get_d_after (x ∷ l) m (suc k) h = let e : suc k - suc (length l) ≡ k - length l = omega arith in rw e (get_d_after l m k (omega arith))

-- ---- tests over two ranges, one after the other
pub any_split : (m n : ℕ) (f : ℕ → Bool) → any (m + n) f ≡ (any m f || any n (λ k. f (m + k)))
unfolding any
any_split m zero f = let e : m + 0 ≡ m = omega arith in rw e (sym (or-false (any m f)))
any_split m (suc n) f = let e : m + suc n ≡ suc (m + n) = omega arith in rw (e, any_split m n f) (or_assoc (any m f) (any n (λ k. f (m + k))) (f (m + n)))

-- a test of the elements of two lists, one after the other
pub any_either : (P : ℕ → Bool) (l m : List ℕ)
    → any (length (l ++ m)) (λ k. P (get_or (l ++ m) k 0)) ≡ (any (length l) (λ k. P (get_or l k 0)) || any (length m) (λ k. P (get_or m k 0)))
any_either P l m = rw (length-append l m) (any_split (length l) (length m) _ ∙ rw (first, second))
  where
    first : any (length l) (λ k. P (get_or (l ++ m) k 0)) ≡ any (length l) (λ k. P (get_or l k 0))
    first = any_same (length l) _ _ (λ k h. rw (get_or-append l m 0 k h))

    second : any (length m) (λ k. P (get_or (l ++ m) (length l + k) 0)) ≡ any (length m) (λ k. P (get_or m k 0))
    second = any_same (length m) _ _ (λ k h. let e : length l + k - length l ≡ k = omega arith in rw (get_d_after l m (length l + k) (omega arith), e))

-- ---- the codes
module _ (b d : List ℕ) where
  pub joint_count : length (joint_codes b d) ≡ joint_order b d
  unfolding joint_codes
  joint_count = length-append (codes_in b) (codes_in d) ∙ rw (codes_count b, codes_count d)

  pub first_code : (k : ℕ) → k < order_in b → get_or (joint_codes b d) k 0 ≡ get_or (codes_in b) k 0
  unfolding joint_codes
  first_code k h = get_or-append (codes_in b) (codes_in d) 0 k (rw (codes_count b) h)

  pub second_code : (k : ℕ) → order_in b ≤ k → get_or (joint_codes b d) k 0 ≡ get_or (codes_in d) (k - order_in b) 0
  unfolding joint_codes
  second_code k h = get_d_after (codes_in b) (codes_in d) k (rw (codes_count b) h) ∙ rw (codes_count b)

-- a test of each code of a sheet, as it is read
pub codes_tested : (b : List ℕ) (w n : ℕ) (f : ℕ → Bool) → w ≡ width_in b → n ≡ order_in b
    → list_any (λ (k : ℕ). f (code_in w b k)) (range_with_len 0 n) ≡ any (length (codes_in b)) (λ k. f (get_or (codes_in b) k 0))
codes_tested b w n f e h =
    any_ranged n _ ∙ rw (h, e, codes_count b) (any_same (order_in b) _ _ (λ k o. ap f (sym (code_at b k o))))

-- ---- the width of the codes
-- one is above 255 where one of the first list is or one of the second
pub long_either : (l m : List ℕ) → long_codes (l ++ m) ≡ (long_codes l || long_codes m)
unfolding long_codes
long_either l m = any_either (ltb 255) l m

-- the width that a test gives
abbrev width_by : Bool → ℕ
width_by x = cond x 2 1

-- the joint sheet has the long form where one of the two has it
module _ (b d : List ℕ) (first : sheet_answer b ≡ given tt) (second : sheet_answer d ≡ given tt) (small : (i : ℕ) → get_or b i 0 < 256)
    (small' : (i : ℕ) → get_or d i 0 < 256) where
  joint_width : width_for (joint_codes b d) ≡ width_by (long_codes (codes_in b) || long_codes (codes_in d))
  unfolding joint_codes width_for
  joint_width = rw (long_either (codes_in b) (codes_in d))

  width_of : (b : List ℕ) → sheet_answer b ≡ given tt → ((i : ℕ) → get_or b i 0 < 256) → width_in b ≡ width_by (long_codes (codes_in b))
  unfolding width_for
  width_of b e s = sym (width_kept b (order_in b) (order_in b * order_in b) (readable_alone b e) s)

  pub long_with_first : width_in b ≡ 2 → 2 ≡ width_for (joint_codes b d)
  long_with_first e = sym (joint_width ∙ go (long_codes (codes_in b)) (sym (width_of b first small) ∙ e))
    where
      go : (x : Bool) → width_by x ≡ 2 → width_by (x || long_codes (codes_in d)) ≡ 2
      go true z = refl
      go false z = absurd (omega arith)

  pub as_second : ¬ (width_in b ≡ 2) → width_in d ≡ width_for (joint_codes b d)
  as_second e = width_of d second small' ∙ go (long_codes (codes_in b)) (λ z. e (width_of b first small ∙ z)) ∙ sym joint_width
    where
      go : (x : Bool) → ¬ (width_by x ≡ 2) → width_by (long_codes (codes_in d)) ≡ width_by (x || long_codes (codes_in d))
      go true z = absurd (z refl)
      go false z = refl

  -- the wider form of the two
  pub joint_width_is : max (width_in b) (width_in d) ≡ width_for (joint_codes b d)
  joint_width_is = rw (width_of b first small, width_of d second small', joint_width) (go (long_codes (codes_in b)) (long_codes (codes_in d)))
    where
      go : (x y : Bool) → max (width_by x) (width_by y) ≡ width_by (x || y)
      go true true = refl
      go true false = refl
      go false true = refl
      go false false = refl

-- ---- the four blocks
module _ (n : ℕ) (A B : ℕ → ℕ → Float) (i j : ℕ) where
  pub in_first : i ≤ n → j ≤ n → blocks n A B i j ≡ A i j
  unfolding blocks
  in_first h k = rw (le-ltb n i h, le-ltb n j k)

  pub in_second : n < i → n < j → blocks n A B i j ≡ B (i - n) (j - n)
  unfolding blocks
  in_second h k = rw (lt-ltb n i h, lt-ltb n j k)

  pub below_first : n < i → j ≤ n → blocks n A B i j ≡ plus_zero
  unfolding blocks
  below_first h k = rw (lt-ltb n i h, le-ltb n j k)

  pub right_of_first : i ≤ n → n < j → blocks n A B i j ≡ plus_zero
  unfolding blocks
  right_of_first h k = rw (le-ltb n i h, lt-ltb n j k)

-- the joint matrix has the entries of the blocks
pub placed : (b d : List ℕ) → Same (joint_order b d) (at (joint_order b d) (joint_matrix b d)) (blocks (order_in b) (entry_in b) (entry_in d))
unfolding joint_matrix
placed b d = read_again (joint_order b d) _

-- ---- the entries of the joint matrix by their patterns, rows and columns from 0, up to the diagonal
-- a stored entry has the pattern that the sheet has
stored : (s : List ℕ) → sheet_answer s ≡ given tt → (r c : ℕ) → 1 ≤ c → c ≤ r → r ≤ order_in s → {v : ℕ} → v < 2 ^ 64 → v ≡ pattern_in s r c
    → v ≡ to_bits binary64 (entry_in s r c)
unfolding entry_in
stored s e r c h k o below z = z ∙ rw (le-ltb r c k) (sym (pattern_fits s _ _ (readable_alone s e) r c h k o (rw z at below)))

module _ (b d : List ℕ) (i j : ℕ) (ji : j ≤ i) where
  abbrev pattern_here : ℕ
  pattern_here = to_bits binary64 (at (joint_order b d) (joint_matrix b d) (i + 1) (j + 1))

  joint_entry : i < joint_order b d → at (joint_order b d) (joint_matrix b d) (i + 1) (j + 1) ≡ blocks (order_in b) (entry_in b) (entry_in d) (i + 1) (j + 1)
  joint_entry o = placed b d (i + 1) (j + 1) (omega arith, omega arith) (omega arith, omega arith)

  -- a word that is the pattern in its sheet
  pub word_of_first : {v : ℕ} → sheet_answer b ≡ given tt → i < order_in b → v < 2 ^ 64 → v ≡ pattern_in b (i + 1) (j + 1) → v ≡ pattern_here
  word_of_first e h below z =
      stored b e (i + 1) (j + 1) (omega arith) (omega arith) (omega arith) below z
      ∙ sym (ap (to_bits binary64) (joint_entry (omega arith) ∙ in_first _ _ _ _ _ (omega arith) (omega arith)))

  pub word_between : i < joint_order b d → order_in b ≤ i → j < order_in b → 0 ≡ pattern_here
  unfolding of_bits to_bits
  word_between o h k = sym (ap (to_bits binary64) (joint_entry o ∙ below_first _ _ _ _ _ (omega arith) (omega arith)))

  pub word_of_second : {v : ℕ} → sheet_answer d ≡ given tt → i < joint_order b d → order_in b ≤ j → v < 2 ^ 64
      → v ≡ pattern_in d (i - order_in b + 1) (j - order_in b + 1) → v ≡ pattern_here
  word_of_second e o h below z =
      let x : i + 1 - order_in b ≡ i - order_in b + 1 = omega arith in
      let y : j + 1 - order_in b ≡ j - order_in b + 1 = omega arith in
      stored d e (i - order_in b + 1) (j - order_in b + 1) (omega arith) (omega arith) (omega arith) below z
      ∙ sym (ap (to_bits binary64) (joint_entry o ∙ in_second _ _ _ _ _ (omega arith) (omega arith) ∙ rw (x, y)))

-- the same of any number that is the pattern, since the bytes of both sheets are bytes
module _ (b d : List ℕ) (first : sheet_answer b ≡ given tt) (second : sheet_answer d ≡ given tt) (small : (i : ℕ) → get_or b i 0 < 256)
    (small' : (i : ℕ) → get_or d i 0 < 256) (i j : ℕ) (ji : j ≤ i) where
  abbrev joint_pattern : ℕ
  joint_pattern = to_bits binary64 (at (joint_order b d) (joint_matrix b d) (i + 1) (j + 1))

  pub pattern_of_first : {v : ℕ} → i < order_in b → v ≡ pattern_in b (i + 1) (j + 1) → v ≡ joint_pattern
  pattern_of_first h e = word_of_first b d i j ji first h (rw e (unfold pattern_in in (word_below b _ small 8))) e

  pub pattern_between : i < joint_order b d → order_in b ≤ i → j < order_in b → 0 ≡ joint_pattern
  pattern_between o h k = word_between b d i j ji o h k

  pub pattern_of_second : {v : ℕ} → i < joint_order b d → order_in b ≤ j → v ≡ pattern_in d (i - order_in b + 1) (j - order_in b + 1) → v ≡ joint_pattern
  pattern_of_second o h e = word_of_second b d i j ji second o h (rw e (unfold pattern_in in (word_below d _ small' 8))) e

-- ---- what a code and a pattern of the joint sheet are proved by
pub code_inside : (b : List ℕ) (k : ℕ) → sheet_answer b ≡ given tt → k < order_in b → 2 + width_in b * k + width_in b ≤ length b
code_inside b k e h = (code_room b e refl k h).2

pub ruleset one_code = (width_fits, code_inside, code_found, first_code, second_code)

pub ruleset one_pattern = (word_of_first, word_between, word_of_second)
