pub mod LentRecords
pub mod ArrayByHand
