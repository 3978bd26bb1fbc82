-- One content has one sheet. Assumes nothing.
use Prim.Native.Nat.{ℕ, ◌<◌}
use mathlib.Core.Path.{◌≡◌, refl, sym, ap, ◌∙◌}
use mathlib.Core.List.{List, ◌++◌}
use native.Mathlib.Omega.{arith}
use lib.ListN.{length, get_or, take, drop, length-append}
use lib.Seq.{take_at}
use lib.Ieee.{Float}
use Rattle.refusal.specs.Answers.{given, value_or}
use Rattle.sheet_reader.specs.Reader.{read_of}
use Rattle.sheet_writer.specs.Writer.{WriteOutcome}
use Rattle.sheet_agreement.proofs.RoundTrip.{written_again}

-- the sheet in what a writing leaves
abbrev sheet_in : WriteOutcome → List ℕ
sheet_in o = take (value_or o.answer 0) o.bytes

module _ (b b' c c' : List ℕ) (m m' : List Float) (n sweeps : ℕ) (small : (i : ℕ) → get_or b i 0 < 256) (small' : (i : ℕ) → get_or b' i 0 < 256)
    (read : (read_of b c m).answer ≡ given (n, sweeps)) (read' : (read_of b' c' m').answer ≡ given (n, sweeps)) where
  pub one_sheet : (read_of b c m).codes ≡ (read_of b' c' m').codes → (read_of b c m).matrix ≡ (read_of b' c' m').matrix → b ≡ b'
  one_sheet e f =
      let long = length-append b b' in
      let again = written_again b small c m n sweeps read (b ++ b') (omega arith) in
      let again' = written_again b' small' c' m' n sweeps read' (b ++ b') (omega arith) in
      sym (ap sheet_in again ∙ take_at b (drop (length b) (b ++ b')) (length b) refl)
      ∙ rw (e, f) (ap sheet_in again' ∙ take_at b' (drop (length b') (b ++ b')) (length b') refl)
