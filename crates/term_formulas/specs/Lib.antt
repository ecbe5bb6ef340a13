pub mod machinery
pub mod Written
