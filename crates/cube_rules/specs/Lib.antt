pub mod Views
pub mod machinery
