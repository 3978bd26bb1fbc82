use Rattle.test_io.proofs.ReadsOn.{reads_on_trans}
use Rattle.test_io.proofs.runs.read_head.Goals as goal

pub returns-in_err-next-clause-reads_on : goal.returns-in_err-next-clause-reads_on
returns-in_err-next-clause-reads_on g c = reads_on_trans _ _ _ c.loop-word.invariant c.read_word.ensures.reads_on

pub returns-in_default-clause-reads_on : goal.returns-in_default-clause-reads_on
returns-in_default-clause-reads_on g c = reads_on_trans _ _ _ c.loop-word.invariant c.read_word.ensures.reads_on

pub loop-word-preserved : goal.loop-word-preserved
loop-word-preserved g c = reads_on_trans _ _ _ c.loop-word.invariant c.read_word.ensures.reads_on
