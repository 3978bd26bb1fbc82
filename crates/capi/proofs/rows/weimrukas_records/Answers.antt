use Rattle.capi.proofs.LentRecords.{records_fit}
use Rattle.capi.proofs.rows.weimrukas_records.Goals as goal

pub put_records-requires : goal.put_records-requires
put_records-requires c = records_fit _ _ _ _ c.records_room.ensures c.in-Ok.ensures
