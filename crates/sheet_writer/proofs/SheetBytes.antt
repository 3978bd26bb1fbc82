-- What is written to a sheet. Assumes nothing.
use Prim.Native.Nat.{ℕ, zero, suc, ◌+◌, ◌-◌, ◌*◌, ◌/◌, ◌%◌, ◌<◌, ◌≤◌}
use mathlib.Core.Path.{◌≡◌, refl, ap, ◌∙◌}
use mathlib.Core.List.{List, [], ◌∷◌, ◌++◌}
use native.Mathlib.Nat.{mul_comm, mul-zero, mul-suc}
use native.Mathlib.Numerals.{add-one}
use native.Mathlib.Omega.{arith}
use borrow.Author.Tests.{lt-ltb, le-ltb, ne_eqb}
use lib.Arith.{digits_div, digits_mod}
use lib.ListN.{length, get_or, set, take, drop, length-set, take-append-drop}
use lib.Seq.{drop-cons, take-suc-set, drop-set-lt}
use Rattle.std.proofs.Common.{append_assoc}
use Rattle.std.specs.Int.{w16, w64, to_be_bytes}
use lib.Seq.{drop_at}
use lib.Ieee.{Float, binary64, to_bits}
use Rattle.refusal.specs.Answers.{Answered, given, refused, giving, unless_refused}
use Rattle.refusal.proofs.RefusedOutcomes.{outcome_answers, outcome_left}
use Rattle.matrix.specs.Matrix.{at}
use Rattle.lists.proofs.Tabulated.{length_tabulate}
use Rattle.lists.proofs.Replaced.{Replaced, replaced_none, replaced_next, replaced_over}
use Rattle.sheet.specs.Codes.{width_for}
use Rattle.sheet.specs.Format.{sheet_length, length_for, first_byte, entries_from, entry_place, entries_to, byte_of, sheet_byte, sheet_of}
use Rattle.sheet.proofs.Triangle.{entry_within, offset_start, code_ends, length_is_lem, place_at, row_more}
use Rattle.sheet_writer.specs.Writer.{write_answer, WriteOutcome, write_outcome, overwritten, written_of, write_of}
use Rattle.sheet_writer.specs.Steps.{with_bytes, with_codes, with_entries, put_of}

-- ---- a slice that is copied over, byte after byte
-- With xs from place o + k on.
set_from : ℕ → ℕ → List ℕ → List ℕ → List ℕ
set_from o k [] b = b
set_from o k (x ∷ xs) b = set_from o (k + 1) xs (set b (o + k) x)

copied : (o k i : ℕ) (xs b : List ℕ) → i ≡ o + k → i + length xs ≤ length b → take i b ++ (xs ++ drop (length xs) (drop i b)) ≡ set_from o k xs b
unfolding set_from
copied o k i [] b e h = take-append-drop i b
copied o k i (x ∷ xs) b e h =
    let inside : i < length b = omega arith in
    let room : suc i + length xs ≤ length (set b i x) = rw (length-set b i x) (omega arith) in
    let rest = copied o (k + 1) (suc i) xs (set b i x) (omega arith) room in
    rw (drop-cons b i 0 inside, ← e) (rw (take-suc-set b i x inside, drop-set-lt (suc i) b i x (omega arith), append_assoc) at rest)

-- the 8 bytes of a word
pub word_put : (v o n : ℕ) (b : List ℕ) → n ≡ 8 → o + 8 ≤ length b → take o b ++ (to_be_bytes w64 v ++ drop n (drop o b)) ≡ with_bytes 8 v o 8 b
unfolding set_from with_bytes byte_of
word_put v o n b e h =
    let y : v / 1 ≡ v = omega arith in
    rw e (copied o 0 o (to_be_bytes w64 v) b (omega arith) h ∙ rw y)

-- the byte of a short code
pub short_put : (w v o : ℕ) (b : List ℕ) → w ≡ 1 → set b o (v % 256) ≡ with_bytes w v o w b
unfolding with_bytes byte_of
short_put w v o b e =
    let y : v / 1 ≡ v = omega arith in
    let z : o + 0 ≡ o = omega arith in
    rw (e, y, z)

-- the 2 bytes of a long one
pub long_put : (w v o n : ℕ) (b : List ℕ) → w ≡ 2 → n ≡ 2 → o + 2 ≤ length b → take o b ++ (to_be_bytes w16 v ++ drop n (drop o b)) ≡ with_bytes w v o w b
unfolding set_from with_bytes byte_of
long_put w v o n b e f h =
    let y : v / 1 ≡ v = omega arith in
    rw (e, f) (copied o 0 o (to_be_bytes w16 v) b (omega arith) h ∙ rw y)

-- ---- lengths
with_bytes_long : (m v o k : ℕ) (l : List ℕ) → length (with_bytes m v o k l) ≡ length l
unfolding with_bytes
with_bytes_long m v o zero l = refl
with_bytes_long m v o (suc k) l = length-set (with_bytes m v o k l) (o + k) (byte_of m v k) ∙ with_bytes_long m v o k l

pub bytes_long : (m v o k : ℕ) (l : List ℕ) {l' : List ℕ} → l' ≡ with_bytes m v o k l → length l' ≡ length l
bytes_long m v o k l e = ap length e ∙ with_bytes_long m v o k l

-- ---- one more code, one more entry
module _ (w : ℕ) (codes b : List ℕ) where
  pub codes_none : b ≡ with_codes w codes 0 b
  unfolding with_codes
  codes_none = refl

  pub codes_next : (k : ℕ) {l l' : List ℕ} → l ≡ with_codes w codes k b → l' ≡ with_bytes w (get_or codes k 0) (2 + w * k) w l
      → l' ≡ with_codes w codes (k + 1) b
  unfolding with_codes
  codes_next k e q = rw (add-one, ← e) q

module _ (w n : ℕ) (A : ℕ → ℕ → Float) (b : List ℕ) where
  pub entries_none : b ≡ with_entries w n A (entries_to 0) b
  unfolding with_entries entries_to
  entries_none = refl

  pub entries_next : (i j : ℕ) {l l' : List ℕ} {x : Float} {v o : ℕ} → j ≤ i → l ≡ with_entries w n A (entries_to i + j) b → x ≡ A (i + 1) (j + 1)
      → v ≡ to_bits binary64 x → o ≡ entries_from w n + 8 * (entries_to i + j) → l' ≡ with_bytes 8 v o 8 l → l' ≡ with_entries w n A (entries_to i + (j + 1)) b
  unfolding with_entries
  entries_next i j h e f g p q =
      let z : entries_to i + (j + 1) ≡ suc (entries_to i + j) = omega arith in
      let r : i + 1 ≡ suc i = omega arith in
      let c : j + 1 ≡ suc j = omega arith in
      rw (z, place_at i j h, ← e) (q ∙ rw (g, f, r, c, p))

  pub row_all : (i : ℕ) {l : List ℕ} → l ≡ with_entries w n A (entries_to i + (i + 1)) b → l ≡ with_entries w n A (entries_to (i + 1)) b
  row_all i e = rw (row_more i) e

-- ---- what the writing of a code, of codes and of entries is proved by
pub ruleset code_bytes = (short_put, long_put)

pub ruleset code_steps = (codes_none, codes_next, bytes_long)

pub ruleset entry_steps = (entries_none, entries_next, row_all, row_more, bytes_long, entry_within, offset_start)

-- ---- the bytes of a sheet, one after the other
module _ (w n sweeps : ℕ) (codes : List ℕ) (A : ℕ → ℕ → Float) where
  pub byte_0 : first_byte w n ≡ sheet_byte w n sweeps codes A 0
  unfolding sheet_byte
  byte_0 = refl

  pub byte_1 : sweeps ≡ sheet_byte w n sweeps codes A 1
  unfolding sheet_byte
  byte_1 = refl

  pub byte_code : (k q : ℕ) → k < n → q < w → byte_of w (get_or codes k 0) q ≡ sheet_byte w n sweeps codes A (2 + w * k + q)
  unfolding sheet_byte
  byte_code k q h r =
      let z : w * k ≡ k * w = mul_comm w k in
      let e : 2 + w * k + q - 2 ≡ k * w + q = omega arith in
      let not-0 = ne_eqb (2 + w * k + q) 0 (λ z. omega arith) in
      let not-1 = ne_eqb (2 + w * k + q) 1 (λ z. omega arith) in
      let code = lt-ltb (2 + w * k + q) (entries_from w n) (omega (arith, code_ends w n k h)) in
      rw (not-0, not-1, code, e, digits_div k r, digits_mod k r)

  pub byte_entry : (e k : ℕ) → k < 8
      → byte_of 8 (to_bits binary64 (A (entry_place e).0 (entry_place e).1)) k ≡ sheet_byte w n sweeps codes A (entries_from w n + 8 * e + k)
  unfolding sheet_byte
  byte_entry e k h =
      let x : (entries_from w n + 8 * e + k - entries_from w n) / 8 ≡ e = omega arith in
      let y : (entries_from w n + 8 * e + k - entries_from w n) % 8 ≡ k = omega arith in
      let not-0 = ne_eqb (entries_from w n + 8 * e + k) 0 (λ z. omega arith) in
      let not-1 = ne_eqb (entries_from w n + 8 * e + k) 1 (λ z. omega arith) in
      rw (not-0, not-1, le-ltb (entries_from w n + 8 * e + k) (entries_from w n) (omega arith), x, y)

  module _ (b : List ℕ) where
    abbrev Done : ℕ → List ℕ → Type 0
    Done k l = Replaced 0 (sheet_byte w n sweeps codes A) b k l

    -- the size bytes
    abbrev headed : List ℕ
    headed = set (set b 0 (first_byte w n)) 1 sweeps

    head_done : 2 ≤ length b → Done 2 headed
    head_done h =
        replaced_next 1 (set b 0 (first_byte w n)) sweeps (replaced_next 0 b (first_byte w n) replaced_none (omega arith) byte_0) (omega arith) byte_1

    -- the first k bytes of a word that stands from o on
    bytes_done : (m v o : ℕ) (l : List ℕ) → o + m ≤ length b → ((k : ℕ) → k < m → byte_of m v k ≡ sheet_byte w n sweeps codes A (o + k)) → Done o l
        → (k : ℕ) → k ≤ m → Done (o + k) (with_bytes m v o k l)
    unfolding with_bytes
    bytes_done m v o l room there d zero h = let z : o + 0 ≡ o = omega arith in rw z d
    bytes_done m v o l room there d (suc k) h =
        let z : o + suc k ≡ o + k + 1 = omega arith in
        let before = bytes_done m v o l room there d k (omega arith) in
        rw z (replaced_next (o + k) (with_bytes m v o k l) _ before (omega arith) (there k (omega arith)))

    codes_done : (l : List ℕ) (k : ℕ) → k ≤ n → entries_from w n ≤ length b → Done 2 l → Done (2 + w * k) (with_codes w codes k l)
    unfolding with_codes
    codes_done l zero h o d = rw (mul-zero w) d
    codes_done l (suc k) h o d =
        let z : 2 + w * suc k ≡ 2 + w * k + w = omega (arith, mul-suc w k) in
        let room : 2 + w * k + w ≤ length b = omega (arith, code_ends w n k h) in
        let before = codes_done l k (omega arith) o d in
        rw z (bytes_done w (get_or codes k 0) (2 + w * k) (with_codes w codes k l) room (λ q r. byte_code k q h r) before w (omega arith))

    entries_done : (l : List ℕ) (e : ℕ) → e ≤ entries_to n → sheet_length w n ≤ length b → Done (entries_from w n) l
        → Done (entries_from w n + 8 * e) (with_entries w n A e l)
    unfolding with_entries
    entries_done l zero h o d = let z : entries_from w n + 8 * 0 ≡ entries_from w n = omega arith in rw z d
    entries_done l (suc e) h o d =
        let z : entries_from w n + 8 * suc e ≡ entries_from w n + 8 * e + 8 = omega arith in
        let room : entries_from w n + 8 * e + 8 ≤ length b = omega (arith, length_is_lem w n) in
        let before = entries_done l e (omega arith) o d in
        rw z (bytes_done 8 _ (entries_from w n + 8 * e) (with_entries w n A e l) room (byte_entry e) before 8 (omega arith))

    abbrev written : List ℕ
    written = with_entries w n A (entries_to n) (with_codes w codes n headed)

    all_done : sheet_length w n ≤ length b → Done (sheet_length w n) written
    all_done o =
        let m = length_is_lem w n in
        rw (length_is_lem w n) (entries_done _ (entries_to n) (omega arith) o (codes_done _ n (omega arith) (omega arith) (head_done (omega arith))))

module _ (n sweeps : ℕ) (codes : List ℕ) (A : ℕ → ℕ → Float) where
  pub sheet_long : length (sheet_of n sweeps codes A) ≡ length_for n codes
  unfolding sheet_of
  sheet_long = length_tabulate (length_for n codes) _

  all_written : (b : List ℕ) → length_for n codes ≤ length b
      → written (width_for codes) n sweeps codes A b ≡ sheet_of n sweeps codes A ++ drop (length_for n codes) b
  unfolding sheet_of
  all_written b o = replaced_over (length_for n codes) _ (all_done (width_for codes) n sweeps codes A b o) o

-- ---- a refused writing, and one that is not
module _ (n sweeps : ℕ) (codes : List ℕ) (l : List Float) (b : List ℕ) where
  pub written_over : {w count : ℕ} {b' : List ℕ} → length_for n codes ≤ length b → w ≡ width_for codes → b' ≡ put_of w n sweeps codes (at n l) b
      → count ≡ sheet_length w n → write_outcome (given count) b' ≡ written_of n sweeps codes l b
  unfolding overwritten put_of
  written_over o e h c = rw (c, h, e, all_written n sweeps codes (at n l) b o)

  pub write_accepted_as : {o : WriteOutcome} → given tt ≡ write_answer n sweeps codes l (length b) → o ≡ written_of n sweeps codes l b
      → o ≡ write_of n sweeps codes l b
  unfolding write_of
  write_accepted_as e f = rw (← e) f

  pub write_answers : (write_of n sweeps codes l b).answer ≡ giving (length_for n codes) (write_answer n sweeps codes l (length b))
  unfolding write_of
  write_answers =
      outcome_answers (λ (o : WriteOutcome). o.answer) (written_of n sweeps codes l b) (λ a. write_outcome a b) refl (λ a. refl)
      (write_answer n sweeps codes l (length b))

  pub bytes_kept : (k : ℕ) (values : List ℕ) → (write_of n sweeps codes l b).answer ≡ refused k values → (write_of n sweeps codes l b).bytes ≡ b
  unfolding write_of
  bytes_kept k values e =
      ap (λ (o : WriteOutcome). o.bytes)
      (outcome_left (λ (o : WriteOutcome). o.answer) (written_of n sweeps codes l b) (λ a. write_outcome a b) refl (λ a. refl)
      (write_answer n sweeps codes l (length b)) e)

  -- longer bytes keep their tail
  pub bytes_tail : drop (length_for n codes) (write_of n sweeps codes l b).bytes ≡ drop (length_for n codes) b
  unfolding write_of
  bytes_tail = go (write_answer n sweeps codes l (length b))
    where
      go : (a : Answered Unit)
          → drop (length_for n codes) (unless_refused a (written_of n sweeps codes l b) (λ x. write_outcome x b)).bytes ≡ drop (length_for n codes) b
      go (given x) = unfold overwritten in
          (drop_at (sheet_of n sweeps codes (at n l)) (drop (length_for n codes) b) (length_for n codes) (sheet_long n sweeps codes (at n l)))
      go (refused k values) = refl
