pub mod Command
pub mod Parsed
pub mod Words
pub mod Properties
pub mod Status
pub mod machinery
