pub mod Results
pub mod Advance
pub mod Whole
