pub mod machinery
pub mod Normal
pub mod Reading
pub mod Stopping
