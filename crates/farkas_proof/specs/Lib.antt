pub mod Derived
pub mod Instances
pub mod Kept
pub mod machinery
