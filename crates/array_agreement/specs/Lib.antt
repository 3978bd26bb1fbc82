pub mod Hand
pub mod Neighbours
