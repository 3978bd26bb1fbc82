pub mod TileWork
pub mod DiagonalWork
pub mod SetWires
pub mod TileTick
pub mod IncomingCells
pub mod TileOperations
