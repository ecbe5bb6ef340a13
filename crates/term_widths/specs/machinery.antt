-- What the code keeps for itself: no rule cites it.
pub mod Apart
pub mod Room
pub mod Seen
pub mod Word
