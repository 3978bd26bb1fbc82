pub mod State
pub mod Run
pub mod Met
pub mod Quiet
pub mod Angles
pub mod Matrices
