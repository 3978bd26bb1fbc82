-- What stands where: in the bytes that a writing leaves, and in the codes and the matrix that a reading leaves. Assumes nothing.
use Prim.Native.Nat.{ℕ, ◌+◌, ◌-◌, ◌*◌, ◌/◌, ◌%◌, ◌^◌, ◌<◌, ◌≤◌}
use mathlib.Core.Path.{◌≡◌, sym, ap, ◌∙◌}
use mathlib.Core.List.{List}
use native.Mathlib.Omega.{arith}
use borrow.Author.Tests.{lt-ltb, le-ltb}
use lib.ListN.{length, get_or, drop, get_or-append}
use lib.Ieee.{Float, binary64, to_bits}
use Rattle.refusal.specs.Answers.{given}
use Rattle.matrix.specs.Matrix.{at}
use Rattle.matrix.proofs.SameEntries.{read_again}
use Rattle.sheet.specs.Codes.{width_for}
use Rattle.sheet.specs.Format.{entries_from, entry_number, byte_of, first_byte, length_for, sheet_of, width_in, order_in, code_in, pattern_in, entry_in}
use Rattle.sheet.proofs.Forms.{first_kept, codes_fit}
use Rattle.sheet.proofs.Triangle.{code_ends, length_is_lem, number_below, half_of}
use Rattle.sheet.proofs.Words.{word_whole, byte_back as byte-of-word}
use Rattle.sheet_reader.specs.Reader.{content_of, read_of}
use Rattle.sheet_reader.proofs.AcceptedSheets.{pattern_kept}
use Rattle.sheet_reader.proofs.SheetContents.{code_at, code_of_one, code_of_two}
use Rattle.sheet_reader.proofs.Tables.{readable}
use Rattle.sheet_writer.specs.Writer.{overwritten, write_of}
use Rattle.sheet_writer.proofs.SheetBytes.{sheet_long}
use Rattle.sheet_writer.proofs.Tables.{writable}
use Rattle.sheet_agreement.proofs.RoundTrip.{Codes16, first_back, sweeps_back, code_byte, entry_byte, writes, reads}

-- the number of an entry in closed form
pub number_is : (i j : ℕ) → 1 ≤ i → entry_number i j ≡ i * (i - 1) / 2 + (j - 1)
unfolding entry_number
number_is i j h = ap (λ k. k + (j - 1)) (sym (half_of i h))

-- ---- written
module _ (n sweeps : ℕ) (codes : List ℕ) (l : List Float) (b : List ℕ) (count : ℕ) (e : (write_of n sweeps codes l b).answer ≡ given count) where
  abbrev bytes : List ℕ
  bytes = (write_of n sweeps codes l b).bytes

  abbrev w : ℕ
  w = width_for codes

  kept : (k : ℕ) → k < length_for n codes → get_or bytes k 0 ≡ get_or (sheet_of n sweeps codes (at n l)) k 0
  unfolding overwritten
  kept k h =
      ap (λ (x : List ℕ). get_or x k 0) (writes n sweeps codes l b count e).1
      ∙ get_or-append (sheet_of n sweeps codes (at n l)) (drop (length_for n codes) b) 0 k (rw (sheet_long n sweeps codes (at n l)) h)

  pub written_first : get_or bytes 0 0 ≡ first_byte w n
  written_first = kept 0 (omega arith) ∙ first_back n sweeps codes (at n l)

  pub written_sweeps : get_or bytes 1 0 ≡ sweeps
  written_sweeps = kept 1 (omega arith) ∙ sweeps_back n sweeps codes (at n l)

  -- byte q of code k
  written_code : (k : ℕ) → k < n → (q : ℕ) → q < w → get_or bytes (2 + w * k + q) 0 ≡ byte_of w (get_or codes k 0) q
  written_code k h q o = kept (2 + w * k + q) (omega (arith, code_ends w n k h)) ∙ code_byte n sweeps codes (at n l) k q h o

  module _ (fit : Codes16 codes) where
    code_below : (k : ℕ) → k < n → get_or codes k 0 < 256 ^ w
    code_below k h = codes_fit codes fit k (omega (arith, (writable n sweeps codes l (length b) (writes n sweeps codes l b count e).0).codes_long))

    code_word : (k : ℕ) → k < n → code_in w bytes k ≡ get_or codes k 0
    unfolding code_in
    code_word k h = word_whole bytes (2 + w * k) w (get_or codes k 0) (code_below k h) (written_code k h)

    pub written_short : w ≡ 1 → (k : ℕ) → k < n → get_or bytes (2 + k) 0 ≡ get_or codes k 0
    written_short z k h = code_of_one bytes k ∙ rw z at (code_word k h)

    pub written_long : w ≡ 2 → (k : ℕ) → k < n → get_or bytes (2 + 2 * k) 0 * 256 + get_or bytes (3 + 2 * k) 0 ≡ get_or codes k 0
    written_long z k h = code_of_two bytes k ∙ rw z at (code_word k h)

  pub written_byte : (i j : ℕ) → 1 ≤ j → j ≤ i → i ≤ n → (r : ℕ) → r < 8
      → get_or bytes (2 + w * n + 8 * entry_number i j + r) 0 ≡ to_bits binary64 (at n l i j) / 256 ^ (7 - r) % 256
  unfolding byte_of
  written_byte i j h k o r p =
      kept (2 + w * n + 8 * entry_number i j + r) (omega (arith, length_is_lem w n, number_below n i j h k o))
      ∙ entry_byte n sweeps codes (at n l) i j h k o r p

-- ---- read
module _ (b c : List ℕ) (m : List Float) (n sweeps : ℕ) (e : (read_of b c m).answer ≡ given (n, sweeps)) where
  pub read_first : get_or b 0 0 ≡ first_byte (width_in b) n
  read_first = sym (first_kept b) ∙ ap (first_byte (width_in b)) (reads b c m n sweeps e).2

  pub read_sweeps : sweeps ≡ get_or b 1 0
  read_sweeps = sym (reads b c m n sweeps e).3

  read_code : (k : ℕ) → k < n → get_or (read_of b c m).codes k 0 ≡ code_in (width_in b) b k
  unfolding content_of
  read_code k h = let v = reads b c m n sweeps e in rw v.1 (code_at b k (omega (arith, v.2)))

  pub read_short : width_in b ≡ 1 → (k : ℕ) → k < n → get_or b (2 + k) 0 ≡ get_or (read_of b c m).codes k 0
  read_short z k h = code_of_one b k ∙ sym (rw z at (read_code k h))

  pub read_long : width_in b ≡ 2 → (k : ℕ) → k < n → get_or b (2 + 2 * k) 0 * 256 + get_or b (3 + 2 * k) 0 ≡ get_or (read_of b c m).codes k 0
  read_long z k h = code_of_two b k ∙ sym (rw z at (read_code k h))

  entry : (i j : ℕ) → (1 ≤ i) × (i ≤ n) → (1 ≤ j) × (j ≤ n) → at n (read_of b c m).matrix i j ≡ entry_in b i j
  unfolding content_of
  entry i j hi hj = let v = reads b c m n sweeps e in rw (v.1, v.2) (read_again n (entry_in b) i j hi hj)

  -- the entries that the sheet stores, byte by byte
  pub read_byte : ((i : ℕ) → get_or b i 0 < 256) → (i j : ℕ) → 1 ≤ j → j ≤ i → i ≤ n → (r : ℕ) → r < 8
      → get_or b (2 + width_in b * n + 8 * entry_number i j + r) 0 ≡ to_bits binary64 (at n (read_of b c m).matrix i j) / 256 ^ (7 - r) % 256
  unfolding entry_in byte_of pattern_in
  read_byte small i j h k o r p =
      let v = reads b c m n sweeps e in
      let good = readable b (length c) (length m) v.0 in
      sym (ap (λ (x : Float). byte_of 8 (to_bits binary64 x) r) (entry i j (omega arith, o) (h, omega arith) ∙ rw (le-ltb i j k))
      ∙ ap (λ (x : ℕ). byte_of 8 x r) (pattern_kept b (length c) (length m) good small i j h k (omega (arith, v.2)))
      ∙ byte-of-word b (entries_from (width_in b) (order_in b) + 8 * entry_number i j) small 8 r p
      ∙ ap (λ (x : ℕ). get_or b (entries_from (width_in b) x + 8 * entry_number i j + r) 0) v.2)

  -- and their mirrors
  pub read_mirror : (i j : ℕ) → 1 ≤ i → i < j → j ≤ n → at n (read_of b c m).matrix i j ≡ at n (read_of b c m).matrix j i
  unfolding entry_in
  read_mirror i j h k o =
      let up = entry i j (h, omega arith) (omega arith, o) in
      let down = entry j i (omega arith, o) (h, omega arith) in
      up ∙ (rw (lt-ltb i j k, le-ltb j i (omega arith))) ∙ sym down
