pub mod SheetBytes
pub mod Tables
