pub mod Verdicts
pub mod machinery
