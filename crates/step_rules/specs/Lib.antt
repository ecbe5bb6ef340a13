pub mod Tokens
pub mod Taken
pub mod Views
pub mod Falsity
pub mod Standing
pub mod machinery
