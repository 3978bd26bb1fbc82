-- Facts on `ReadsOn`. Assumes nothing.
use Rattle.std.proofs.Common.{ℕ, List, ◌++◌, Option}
use Rattle.std.proofs.KnownBytes.{Consumes-trans}
use Rattle.input_bytes.specs.Reads.{ReadsOn}

-- one read after another
pub reads_on_trans : (a b c : Option (List ℕ)) → ReadsOn a b → ReadsOn b c → ReadsOn a c
reads_on_trans a b c p q = (p.0 ++ q.0, Consumes-trans a b c p.0 q.0 p.1 q.1)
