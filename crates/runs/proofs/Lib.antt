pub mod Verdicts
pub mod Starts
pub mod BlockTurns
pub mod EarlyRefusals
pub mod LineZero
pub mod ProcessorCounts
