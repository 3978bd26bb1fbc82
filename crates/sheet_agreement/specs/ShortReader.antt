-- Document 01, "A sheet" and "Refused, by place": what its reader answers and leaves, with the orders that document 02 (ii) accepts. Document
-- 02 (i) is not in it: the first byte is the order, and a code has one byte. It stands here for comparison. Definitions only.
use Rattle.std.specs.Prelude.{ℕ, ◌+◌, ◌*◌, not, cond, ◌&&◌, List, [], ◌∷◌, eqb, ltb, length, get_or, Float}
use Rattle.std.specs.Float.{binary64}
use Rattle.std.specs.Float.Ieee.{of_bits}
use Rattle.float64.specs.Values.{finite}
use Rattle.refusal.specs.Answers.{Answered, given, refused_by, unless_refused, row, table, first}
use Rattle.refusal.specs.declared.Refusal.TheVariants.{Length, Code, NotFinite}
use Rattle.lists.specs.Tabulate.{tabulate}
use Rattle.sizes.specs.Sizes.{order_row, sweeps_row}
use Rattle.matrix.specs.Matrix.{flat}
use Rattle.matrix.specs.Entries.{is_square}
use Rattle.sheet.specs.Codes.{bad_codes}
use Rattle.sheet.specs.Format.{entry_number, word_from}
use Rattle.sheet_reader.specs.Reader.{ReadOutcome, read_outcome}

unfoldable pub short_codes_in : List ℕ → List ℕ
short_codes_in b = tabulate (get_or b 0 0) (λ k. get_or b (2 + k) 0)

unfoldable pub short_pattern_in : List ℕ → ℕ → ℕ → ℕ
short_pattern_in b i j = word_from b (2 + get_or b 0 0 + 8 * entry_number i j) 8

unfoldable pub short_entry_in : List ℕ → ℕ → ℕ → Float
short_entry_in b i j = cond (ltb i j) (of_bits binary64 (short_pattern_in b j i)) (of_bits binary64 (short_pattern_in b i j))

unfoldable pub short_stored_row : List ℕ → Answered Unit
short_stored_row b =
    first (get_or b 0 0) (λ r. first r (λ c. cond (finite (of_bits binary64 (short_pattern_in b r c))) (given tt) (refused_by (NotFinite r c))))

unfoldable pub short_answer : List ℕ → ℕ → ℕ → Answered Unit
short_answer b lc lm =
    let n = get_or b 0 0 in
    table
    (row (ltb (length b) 2) Length ∷ order_row n ∷ sweeps_row (get_or b 1 0)
    ∷ row (not (eqb lc n && (is_square n lm && eqb (length b) (2 + n + 4 * n * (n + 1))))) Length ∷ row (bad_codes (short_codes_in b)) Code
    ∷ short_stored_row b ∷ [])

unfoldable pub short_read_of : List ℕ → List ℕ → List Float → ReadOutcome
short_read_of b c m =
    unless_refused (short_answer b (length c) (length m))
    (read_outcome (given (get_or b 0 0, get_or b 1 0)) (short_codes_in b) (flat (get_or b 0 0) (short_entry_in b))) (λ a. read_outcome a c m)
