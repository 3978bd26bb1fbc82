pub mod Columns
pub mod Movement
pub mod OrderRegisters
pub mod Meetings
pub mod RegisterLines
pub mod RegisterMoves
