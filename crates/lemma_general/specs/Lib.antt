pub mod Generals
pub mod Tries
pub mod machinery
