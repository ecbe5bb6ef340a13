-- What the code keeps for itself: no rule cites it.
pub mod Known
pub mod Meanings
pub mod Reading
pub mod TellsFormula
pub mod WordLengths
