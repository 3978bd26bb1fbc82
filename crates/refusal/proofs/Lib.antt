pub mod FirstRefusal
pub mod FirstPlaces
pub mod RefusedOutcomes
