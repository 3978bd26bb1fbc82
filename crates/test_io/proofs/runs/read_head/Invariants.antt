-- So many words are read on.
use Rattle.input_bytes.specs.Reads.{ReadsOn}
use Rattle.test_io.proofs.runs.read_head.Given as goal

abbrev pub invariant-loop-word : goal.invariant-loop-word
invariant-loop-word g l = ReadsOn (g.R.Read.remaining l.initial.input) (g.R.Read.remaining l.input)
