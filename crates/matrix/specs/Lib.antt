pub mod Matrix
pub mod Entries
pub mod Transposed
