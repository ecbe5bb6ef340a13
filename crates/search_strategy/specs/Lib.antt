pub mod Jobs
pub mod Lifts
pub mod Older
pub mod Runs
pub mod machinery
