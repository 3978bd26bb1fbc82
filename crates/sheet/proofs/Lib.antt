pub mod ListTests
pub mod BadCodes
pub mod Forms
pub mod Triangle
pub mod Words
