pub mod Registers
pub mod Pairs
