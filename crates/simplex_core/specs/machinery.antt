-- What the code keeps for itself: no rule cites it.
pub mod Filled
pub mod Following
pub mod Refresh
pub mod Standing
