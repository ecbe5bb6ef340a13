pub mod Areas
pub mod machinery
