pub mod TurnedEntries
pub mod EntrySet
pub mod TurnedStates
pub mod RuledPairs
pub mod AlikeStates
pub mod PairLines
