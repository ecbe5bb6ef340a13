pub mod Kept
pub mod Uses
pub mod Answers
pub mod machinery
