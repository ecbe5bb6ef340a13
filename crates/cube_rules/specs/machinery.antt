-- What the code keeps for itself: no rule cites it.
pub mod Literals
pub mod Walks
