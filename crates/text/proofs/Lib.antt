pub mod TextPieces
pub mod Decimals
