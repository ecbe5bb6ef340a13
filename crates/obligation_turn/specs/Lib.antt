pub mod Turns
pub mod Counts
pub mod Workspaces
pub mod machinery
