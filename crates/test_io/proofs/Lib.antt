pub mod ReadWords
pub mod ReadsOn
pub mod WrittenTexts
pub mod DigitCounts
