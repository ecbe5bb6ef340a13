pub mod Answers
pub mod Summaries
