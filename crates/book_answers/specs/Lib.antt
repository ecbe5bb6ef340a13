pub mod Answers
pub mod Wanting
