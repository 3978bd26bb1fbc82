pub mod Slots
pub mod Blocks
pub mod Synchronous
pub mod Tiles
pub mod Arrays
pub mod Schedule
pub mod Traffic
pub mod Sequential
