pub mod CAnswers
pub mod Calls
