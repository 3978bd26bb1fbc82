pub mod JoinOutcomes
pub mod JointContents
pub mod Tables
