-- What the code keeps for itself: no rule cites it.
pub mod Columns
pub mod Gathering
pub mod Solved
pub mod Values
