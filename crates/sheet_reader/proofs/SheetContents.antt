-- What is read from a sheet. Assumes nothing.
use Prim.Native.Nat.{ℕ, ◌+◌, ◌-◌, ◌*◌, ◌<◌, ◌≤◌}
use mathlib.Core.Path.{◌≡◌, refl, sym, ap}
use mathlib.Core.Bool.{Bool, true, false, not, ◌||◌}
use mathlib.Core.List.{List}
use native.Mathlib.Omega.{arith}
use borrow.Author.Tests.{ne_eqb, lt-ltb, le-ltb, ltb-true, ltb-false}
use lib.Dec.{eqb, ltb}
use lib.ListN.{length, get_or}
use lib.Ieee.{Float, binary64, of_bits}
use Rattle.float64.specs.Values.{finite}
use Rattle.refusal.specs.Answers.{Answered, given, refused, refused_by, giving, first}
use Rattle.refusal.specs.declared.Refusal.TheVariants.{NotFinite}
use Rattle.refusal.proofs.FirstRefusal.{first_found}
use Rattle.refusal.proofs.RefusedOutcomes.{outcome_answers, outcome_left}
use Rattle.refusal.proofs.FirstPlaces.{Searched, searched, place}
use Rattle.lists.proofs.Tabulated.{length_tabulate, get_d_tabulate}
use Rattle.lists.proofs.Filled.{Filled, filled_none, filled_next, filled_all}
use Rattle.refusal.proofs.FirstRefusal.{first_none, first_more}
use Rattle.sheet.proofs.Forms.{width_fits}
use Rattle.sheet.proofs.Triangle.{closed, code_ends}
use Rattle.matrix.specs.Matrix.{flat}
use Rattle.sheet.specs.Format.{entries_from, entries_to, entry_number, word_from, width_in, order_in, sweeps_in, code_in, codes_in, pattern_in, entry_in}
use Rattle.sheet.specs.Codes.{bad_codes, long_codes}
use Rattle.sheet_reader.specs.Reader.{OfForm, long_in_vain, not_finite_in, stored_row, read_answer, ReadOutcome, read_outcome, content_of, read_of}

-- ---- one stored entry
module _ (b : List ℕ) where
  -- rows and columns from 0
  pub pattern_read : {w n o v : ℕ} (i j : ℕ) → OfForm w n b → o ≡ entries_from w n + 8 * (entries_to i + j) → v ≡ word_from b o 8
      → v ≡ pattern_in b (i + 1) (j + 1)
  unfolding pattern_in entry_number
  pattern_read i j f e g =
      let x : i + 1 - 1 ≡ i = omega arith in
      let y : j + 1 - 1 ≡ j = omega arith in
      rw (x, y, ← f.0, ← f.1, ← e) g

  -- ---- both triangles
  pub above_diagonal : {w : ℕ} (r c : ℕ) → r < c → w ≡ pattern_in b c r → of_bits binary64 w ≡ entry_in b r c
  unfolding entry_in
  above_diagonal r c h e = rw (lt-ltb r c h, ← e)

  pub up_to_diagonal : {w : ℕ} (r c : ℕ) → c ≤ r → w ≡ pattern_in b r c → of_bits binary64 w ≡ entry_in b r c
  unfolding entry_in
  up_to_diagonal r c h e = rw (le-ltb r c h, ← e)

  -- an entry at its mirror place
  pub mirror_read : {w : ℕ} (r c : ℕ) → c ≤ r → w ≡ pattern_in b r c → of_bits binary64 w ≡ entry_in b c r
  mirror_read {w} r c h e = go (ltb c r) refl
    where
      go : (x : Bool) → ltb c r ≡ x → of_bits binary64 w ≡ entry_in b c r
      go true z = above_diagonal c r (ltb-true _ _ z) e
      go false z = let y : r ≤ c = ltb-false _ _ z in let d : c ≡ r = omega arith in rw d (up_to_diagonal r r (omega arith) (rw d at e))

  -- ---- the test
  pub tested_as : {w : ℕ} {t : Bool} (r c : ℕ) → w ≡ pattern_in b r c → t ≡ finite (of_bits binary64 w) → finite (of_bits binary64 (pattern_in b r c)) ≡ t
  tested_as r c e f = rw (← e) (sym f)

  pub is_finite : (r c : ℕ) → finite (of_bits binary64 (pattern_in b r c)) ≡ true → not_finite_in b r c ≡ given tt
  unfolding not_finite_in
  is_finite r c e = rw e

  is_not_finite : (r c : ℕ) → finite (of_bits binary64 (pattern_in b r c)) ≡ false → not_finite_in b r c ≡ refused_by (NotFinite r c)
  unfolding not_finite_in
  is_not_finite r c e = rw e

  -- ---- the rows from top to bottom
  abbrev row_tested : ℕ → Answered Unit
  row_tested r = first r (not_finite_in b r)

  pub none_found : (i : ℕ) → i ≡ order_in b → first i row_tested ≡ given tt → given tt ≡ stored_row b
  unfolding stored_row
  none_found i e f = sym (rw e at f)

  pub one_found : (i j : ℕ) → i < order_in b → first i row_tested ≡ given tt → j < i + 1 → first j (not_finite_in b (i + 1)) ≡ given tt
      → finite (of_bits binary64 (pattern_in b (i + 1) (j + 1))) ≡ false → refused_by (NotFinite (i + 1) (j + 1)) ≡ stored_row b
  unfolding stored_row
  one_found i j h e k f g = sym (first_found row_tested _ _ _ i h e (first_found _ _ _ _ j k f (is_not_finite (i + 1) (j + 1) g)))

  abbrev InTriangle : ℕ → ℕ → Type 0
  InTriangle r c = (1 ≤ r) × (r ≤ order_in b) × (1 ≤ c) × (c ≤ r)

  abbrev stored_finite : ℕ → ℕ → Bool
  stored_finite r c = finite (of_bits binary64 (pattern_in b r c))

  pub stored_searched : Searched InTriangle stored_finite 5 (stored_row b)
  unfolding not_finite_in stored_row
  stored_searched =
      searched InTriangle stored_finite 5 (order_in b) (λ r. r) (λ r c y. ((y.0, y.1), (y.2, y.3)))
      (λ r c y z. place InTriangle stored_finite 5 r c (y.0, y.1, z.0, z.1) (stored_finite r c) refl)

  -- ---- codes
  pub codes_count : length (codes_in b) ≡ order_in b
  unfolding codes_in
  codes_count = length_tabulate (order_in b) _

  pub code_at : (k : ℕ) → k < order_in b → get_or (codes_in b) k 0 ≡ code_in (width_in b) b k
  unfolding codes_in
  code_at k h = get_d_tabulate (order_in b) _ k 0 h

  pub code_of_one : (k : ℕ) → get_or b (2 + k) 0 ≡ code_in 1 b k
  unfolding code_in word_from
  code_of_one k = let e : 2 + 1 * k + 0 ≡ 2 + k = omega arith in rw e (omega arith)

  pub code_of_two : (k : ℕ) → get_or b (2 + 2 * k) 0 * 256 + get_or b (3 + 2 * k) 0 ≡ code_in 2 b k
  unfolding code_in word_from
  code_of_two k =
      let e : 2 + 2 * k + 0 ≡ 2 + 2 * k = omega arith in
      let f : 2 + 2 * k + 1 ≡ 3 + 2 * k = omega arith in
      rw (e, f) (omega arith)

  -- ---- the test of the codes
  module _ {codes : List ℕ} (read : codes ≡ codes_in b) where
    module _ {w : ℕ} (form : w ≡ width_in b) (good : false ≡ bad_codes codes) where
      pub codes_short : ¬ (w ≡ 2) → eqb w 2 ≡ (bad_codes (codes_in b) || long_in_vain b)
      unfolding long_in_vain
      codes_short e = rw (← read, ← good, ← form, ne_eqb w 2 e)

      pub codes_long : {t : Bool} → w ≡ 2 → t ≡ long_codes codes → not t ≡ (bad_codes (codes_in b) || long_in_vain b)
      unfolding long_in_vain
      codes_long e f = rw (← read, ← good, ← form, e, ← f)

  -- ---- the whole of it
  pub codes_read : {w n : ℕ} (k : ℕ) (l : List ℕ) → OfForm w n b → Filled 0 (code_in w b) n k l → n ≤ k → l ≡ codes_in b
  unfolding codes_in
  codes_read k l f h o = rw (← f.0, ← f.1) (filled_all k l h o)

  pub all_read : {n : ℕ} {c : List ℕ} {m : List Float} → n ≡ order_in b → c ≡ codes_in b → m ≡ flat n (entry_in b)
      → read_outcome (given (n, sweeps_in b)) c m ≡ content_of b
  unfolding content_of
  all_read h e f = rw (e, f, h)

-- ---- what a code, the codes, a pattern and the tests are proved by
pub ruleset one_code = (code_of_one, code_of_two)

pub ruleset code_tests = (codes_short, codes_long)

pub ruleset code_reads = (filled_none, filled_next, code_ends, width_fits)

pub ruleset entry_tests = (first_none, first_more, tested_as, is_finite, none_found, one_found)

pub ruleset one_pattern = (closed, pattern_read)

-- ---- a refused reading, and one that is not
module _ (b c : List ℕ) (m : List Float) where
  pub read_accepted_as : {o : ReadOutcome} → given tt ≡ read_answer b (length c) (length m) → o ≡ content_of b → o ≡ read_of b c m
  unfolding read_of
  read_accepted_as e f = rw (← e) f

  pub read_answers : (read_of b c m).answer ≡ giving (order_in b, sweeps_in b) (read_answer b (length c) (length m))
  unfolding read_of content_of
  read_answers = outcome_answers (λ (o : ReadOutcome). o.answer) (content_of b) (λ a. read_outcome a c m) refl (λ a. refl) (read_answer b (length c) (length m))

  pub lent_kept : (k : ℕ) (values : List ℕ) → (read_of b c m).answer ≡ refused k values → ((read_of b c m).codes ≡ c) × ((read_of b c m).matrix ≡ m)
  unfolding read_of content_of
  lent_kept k values e =
      let w = outcome_left (λ (o : ReadOutcome). o.answer) (content_of b) (λ a. read_outcome a c m) refl (λ a. refl) (read_answer b (length c) (length m)) e in
      (ap (λ (o : ReadOutcome). o.codes) w, ap (λ (o : ReadOutcome). o.matrix) w)
