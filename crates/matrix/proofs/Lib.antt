pub mod Flat
pub mod EntryPlaces
pub mod EntryTests
pub mod Answers
pub mod SameEntries
pub mod AcceptedEntries
pub mod Transposition
pub mod FirstEntries
