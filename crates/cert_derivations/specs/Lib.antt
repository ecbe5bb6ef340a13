pub mod Claims
pub mod Examples
pub mod LineExamples
pub mod Lines
pub mod Steps
pub mod machinery
