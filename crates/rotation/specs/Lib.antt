pub mod Rotation
pub mod Exact
