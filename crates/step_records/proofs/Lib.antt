pub mod RecordRefusals
pub mod WrittenRows
pub mod FoundRecords
pub mod LeftRows
pub mod FiniteRecords
