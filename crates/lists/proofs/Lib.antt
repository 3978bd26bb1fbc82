pub mod Tabulated
pub mod Filled
pub mod Replaced
pub mod Over
pub mod Bounded
pub mod Sums
