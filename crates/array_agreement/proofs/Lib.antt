pub mod Neighbours
pub mod Agreement
pub mod CountedRuns
pub mod QuietRuns
pub mod Hand
pub mod HandCounts
