-- What the code keeps for itself: no rule cites it.
pub mod Closing
pub mod Falsehood
pub mod Taken
pub mod Tightest
