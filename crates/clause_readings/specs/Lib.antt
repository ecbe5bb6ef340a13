pub mod Layout
pub mod Matching
