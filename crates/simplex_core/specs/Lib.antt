pub mod Answer
pub mod Coordinate
pub mod Meaning
pub mod Run
pub mod Standings
pub mod machinery
