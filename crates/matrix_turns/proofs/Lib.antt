pub mod LinePairs
pub mod TurnedLines
pub mod TurnedLists
pub mod SameTurns
pub mod StillTurns
