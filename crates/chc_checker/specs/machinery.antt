-- What the code keeps for itself: no rule cites it.
pub mod Judging
pub mod Links
pub mod Parts
pub mod Reading
