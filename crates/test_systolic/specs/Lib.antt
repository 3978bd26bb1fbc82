pub mod Toy
pub mod Readings
