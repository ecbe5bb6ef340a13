pub mod Runs
pub mod Locks
pub mod Jobs
pub mod machinery
