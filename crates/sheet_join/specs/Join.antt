-- Document 02 (viii): what the joining of two sheets answers and leaves. b is the first sheet and d the second. Definitions only.
use Rattle.std.specs.Prelude.{ℕ, ◌+◌, ◌-◌, max, ◌≡◌, Bool, cond, List, [], ◌∷◌, ◌++◌, eqb, ltb, length, get_or, Float}
use Rattle.float64.specs.Values.{plus_zero}
use Rattle.refusal.specs.Answers.{Answered, given, unless_refused, row, table}
use Rattle.refusal.specs.declared.Refusal.TheVariants.{TooShort, SharedCode}
use Rattle.lists.specs.Bounded.{any}
use Rattle.sizes.specs.Sizes.{order_row}
use Rattle.matrix.specs.Matrix.{flat}
use Rattle.sheet.specs.Format.{order_in, sweeps_in, codes_in, entry_in, length_for}
use Rattle.sheet_reader.specs.Reader.{sheet_answer}
use Rattle.sheet_writer.specs.Writer.{WriteOutcome, write_outcome, written_of}

-- ---- the joint content
-- The lines of the first sheet, then those of the second.
abbrev pub joint_order : List ℕ → List ℕ → ℕ
joint_order b d = order_in b + order_in d

unfoldable pub joint_codes : List ℕ → List ℕ → List ℕ
joint_codes b d = codes_in b ++ codes_in d

-- The larger number of sweeps.
abbrev pub joint_sweeps : List ℕ → List ℕ → ℕ
joint_sweeps b d = max (sweeps_in b) (sweeps_in d)

-- The matrix A of order n and then the matrix B on one diagonal, and +0 between the two groups of lines.
unfoldable pub blocks : ℕ → (ℕ → ℕ → Float) → (ℕ → ℕ → Float) → ℕ → ℕ → Float
blocks n A B i j = cond (ltb n i) (cond (ltb n j) (B (i - n) (j - n)) plus_zero) (cond (ltb n j) plus_zero (A i j))

unfoldable pub joint_matrix : List ℕ → List ℕ → List Float
joint_matrix b d = flat (joint_order b d) (blocks (order_in b) (entry_in b) (entry_in d))

-- ---- the answer
-- The code x is one of the codes.
unfoldable pub has_code : ℕ → List ℕ → Bool
has_code x codes = any (length codes) (λ k. eqb (get_or codes k 0) x)

-- A code is in both lists.
unfoldable pub shared_code : List ℕ → List ℕ → Bool
shared_code codes others = any (length codes) (λ k. has_code (get_or codes k 0) others)

-- How many bytes the joint sheet has.
abbrev pub joint_length : List ℕ → List ℕ → ℕ
joint_length b d = length_for (joint_order b d) (joint_codes b d)

-- The table from top to bottom. lb is the number of lent bytes.
unfoldable pub join_answer : List ℕ → List ℕ → ℕ → Answered Unit
join_answer b d lb =
    table
    (sheet_answer b ∷ sheet_answer d ∷ row (shared_code (codes_in b) (codes_in d)) SharedCode ∷ order_row (joint_order b d)
    ∷ row (ltb lb (joint_length b d)) TooShort ∷ [])

-- ---- the outcome
-- Where nothing is refused, what the writer leaves of the joint content.
abbrev pub joined_of : List ℕ → List ℕ → List ℕ → WriteOutcome
joined_of b d l = written_of (joint_order b d) (joint_sweeps b d) (joint_codes b d) (joint_matrix b d) l

unfoldable pub join_of : List ℕ → List ℕ → List ℕ → WriteOutcome
join_of b d l = unless_refused (join_answer b d (length l)) (joined_of b d l) (λ a. write_outcome a l)

-- ---- what the steps of a joining take
-- Neither sheet is refused.
abbrev pub BothAccepted : List ℕ → List ℕ → Type 0
BothAccepted b d = (sheet_answer b ≡ given tt) × (sheet_answer d ≡ given tt)
