-- What the code keeps for itself: no rule cites it.
pub mod Choosing
pub mod Passes
pub mod Steps
