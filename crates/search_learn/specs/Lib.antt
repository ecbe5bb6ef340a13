pub mod Candidates
pub mod machinery
