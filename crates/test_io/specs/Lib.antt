pub mod Cases
pub mod Digits
pub mod Runs
pub mod TextLines
