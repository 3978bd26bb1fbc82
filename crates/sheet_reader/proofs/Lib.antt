pub mod AcceptedSheets
pub mod MirroredEntries
pub mod SheetContents
pub mod Tables
