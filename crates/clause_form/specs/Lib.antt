pub mod Kept
pub mod System
