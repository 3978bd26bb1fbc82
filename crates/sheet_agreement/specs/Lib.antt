pub mod ShortReader
