pub mod Sides
pub mod Wide
pub mod machinery
