pub mod Counted
pub mod Short
pub mod machinery
