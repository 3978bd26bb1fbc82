pub mod ListingParts
