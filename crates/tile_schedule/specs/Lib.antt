pub mod Schedule
pub mod Answers
