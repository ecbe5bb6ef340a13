pub mod Allowed
pub mod Counts
