-- What the steps of the writer leave. Definitions only.
use Rattle.std.specs.Prelude.{ℕ, zero, suc, ◌+◌, ◌*◌, ◌<◌, ◌≤◌, ◌≡◌, List, get_or, set, Float}
use Rattle.std.specs.Float.{binary64}
use Rattle.std.specs.Float.Ieee.{to_bits}
use Rattle.sheet.specs.Format.{first_byte, entries_from, entry_place, entries_to, byte_of}

-- Bytes b with the first k bytes of a word v of m bytes from o on.
unfoldable pub with_bytes : ℕ → ℕ → ℕ → ℕ → List ℕ → List ℕ
with_bytes m v o zero b = b
with_bytes m v o (suc k) b = set (with_bytes m v o k b) (o + k) (byte_of m v k)

-- With the first k codes, of w bytes each.
unfoldable pub with_codes : ℕ → List ℕ → ℕ → List ℕ → List ℕ
with_codes w codes zero b = b
with_codes w codes (suc k) b = with_bytes w (get_or codes k 0) (2 + w * k) w (with_codes w codes k b)

-- With the first e entries of a matrix of order n.
unfoldable pub with_entries : ℕ → ℕ → (ℕ → ℕ → Float) → ℕ → List ℕ → List ℕ
with_entries w n A zero b = b
with_entries w n A (suc e) b = with_bytes 8 (to_bits binary64 (A (entry_place e).0 (entry_place e).1)) (entries_from w n + 8 * e) 8 (with_entries w n A e b)

-- ---- a whole sheet of order n
-- With the two size bytes, all codes and all entries.
unfoldable pub put_of : ℕ → ℕ → ℕ → List ℕ → (ℕ → ℕ → Float) → List ℕ → List ℕ
put_of w n sweeps codes A b = with_entries w n A (entries_to n) (with_codes w codes n (set (set b 0 (first_byte w n)) 1 sweeps))

-- Numbers of codes, and places up to the diagonal, from 0, may be asked for.
abbrev pub TakesCodes : (ℕ → Type 0) → ℕ → Type 0
TakesCodes pre n = (k : ℕ) → k < n → pre k

abbrev pub TakesPlaces : (ℕ → ℕ → Type 0) → ℕ → Type 0
TakesPlaces pre n = (i j : ℕ) → j ≤ i → i < n → pre i j

-- What is given are the codes, and the patterns of a matrix.
abbrev pub GivesCodes : (ℕ → ℕ → Type 0) → ℕ → List ℕ → Type 0
GivesCodes post n codes = (k x : ℕ) → k < n → post k x → x ≡ get_or codes k 0

abbrev pub GivesPatterns : (ℕ → ℕ → ℕ → Type 0) → ℕ → (ℕ → ℕ → Float) → Type 0
GivesPatterns post n A = (i j x : ℕ) → j ≤ i → i < n → post i j x → x ≡ to_bits binary64 (A (i + 1) (j + 1))
