pub mod Generated
pub mod machinery
