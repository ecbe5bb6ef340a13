pub mod Instances
pub mod Kept
pub mod Queries
pub mod Tokens
