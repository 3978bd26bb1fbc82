pub mod Codes
pub mod Format
