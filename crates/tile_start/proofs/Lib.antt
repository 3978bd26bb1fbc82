pub mod StartTiles
