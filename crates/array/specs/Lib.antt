pub mod Angles
pub mod Arrays
pub mod Runs
pub mod Halves
