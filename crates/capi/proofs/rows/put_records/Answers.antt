use Rattle.std.proofs.Common.{◌∙◌, arith, le_antisymm}
use Rattle.lists.proofs.Replaced.{replaced_none}
use Rattle.ordering.proofs.OrderRegisters.{of_order}
use Rattle.capi.proofs.LentRecords.{record_put, records_put, flag_put, flags_put}
use Rattle.capi.proofs.rows.put_records.Goals as goal

pub loop-k-init : goal.loop-k-init
loop-k-init c = (replaced_none, replaced_none)

pub loop-k-preserved : goal.loop-k-preserved
loop-k-preserved c =
    let i = c.loop-k.invariant in
    let x = rw (of_order _ c.requires.0 c.pairs.ensures.lists) at c.of_processor-fields.ensures in
    (record_put _ _ _ _ _ _ _ _ x i.0 (omega arith) c.put_record.ensures, flag_put _ _ _ _ _ _ _ x i.1 (omega arith))

pub returns : goal.returns
returns c =
    let i = c.loop-k.invariant in
    let all = le_antisymm c.loop-k.auto.k-end c.loop-k-test.false ∙ c.processors_of-k-end.ensures in
    (records_put _ _ _ _ _ (rw all at i.0) c.requires.1, flags_put _ _ _ _ _ (rw all at i.1) c.requires.2)
