pub mod Calls
pub mod machinery
