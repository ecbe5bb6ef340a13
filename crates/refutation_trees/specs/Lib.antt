pub mod Combination
pub mod Flatten
pub mod GivenUp
pub mod KeptEvidence
pub mod Refutation
pub mod Split
pub mod machinery
