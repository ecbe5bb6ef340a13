pub mod Checked
pub mod Commands
pub mod Properties
pub mod Scripts
pub mod State
pub mod machinery
