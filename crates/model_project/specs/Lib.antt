pub mod Elimination
pub mod Kept
pub mod Projection
pub mod Substitution
pub mod machinery
