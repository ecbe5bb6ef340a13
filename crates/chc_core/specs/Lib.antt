pub mod Contents
pub mod Views
pub mod Openings
pub mod Derivations
pub mod machinery
