pub mod Clauses
pub mod Headline
pub mod machinery
