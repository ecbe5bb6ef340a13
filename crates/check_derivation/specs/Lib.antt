pub mod Findings
pub mod machinery
