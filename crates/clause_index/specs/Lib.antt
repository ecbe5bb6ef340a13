pub mod Index
pub mod machinery
