pub mod Values
pub mod Units
