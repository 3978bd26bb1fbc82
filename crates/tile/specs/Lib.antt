pub mod Turned
pub mod Tiles
