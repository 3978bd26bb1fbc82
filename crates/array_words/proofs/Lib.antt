pub mod WordsWritten
pub mod ArrayRead
pub mod WordsBack
