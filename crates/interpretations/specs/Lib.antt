pub mod Definitions
pub mod Kept
pub mod Size
pub mod Terms
pub mod machinery
