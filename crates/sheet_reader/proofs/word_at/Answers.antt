use Prim.Native.Nat.{◌+◌, ◌-◌}
use mathlib.Core.Path.{◌∙◌}
use native.Mathlib.Omega.{arith}
use Rattle.sheet.proofs.Words.{word_eight, word_sliced}
use Rattle.sheet_reader.proofs.word_at.Goals as goal

pub returns : goal.returns
returns c =
    let whole = rw c.unwrap.ensures at c.try_from.ensures.1 in
    c.from_be_bytes.ensures ∙ word_eight c.unwrap.result ∙ rw whole.same (word_sliced c.args.bytes.now c.args.at 8 (c.args.at + 8 - c.args.at) (omega arith))
