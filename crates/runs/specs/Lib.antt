pub mod State
pub mod Outcome
pub mod Blocks
pub mod Counts
pub mod Cells
