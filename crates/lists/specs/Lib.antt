pub mod Tabulate
pub mod Over
pub mod Bounded
