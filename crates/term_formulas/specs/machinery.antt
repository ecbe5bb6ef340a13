-- What the code keeps for itself: no rule cites it.
pub mod Bits
pub mod Fresh
pub mod Parts
