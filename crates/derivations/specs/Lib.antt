pub mod Facts
pub mod machinery
