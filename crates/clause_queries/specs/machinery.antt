-- What the code keeps for itself: no rule cites it.
pub mod Asking
pub mod Carrying
pub mod Choices
pub mod Needs
