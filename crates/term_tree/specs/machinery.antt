-- What the code keeps for itself: no rule cites it.
pub mod Known
pub mod Pairs
pub mod Walk
