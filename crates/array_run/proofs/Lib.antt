pub mod Results
pub mod Advances
pub mod DiagonalCounts
pub mod WholeRuns
pub mod Ranges
