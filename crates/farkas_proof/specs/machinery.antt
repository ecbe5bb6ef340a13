-- What the code keeps for itself: no rule cites it.
pub mod Ends
pub mod Narrow
pub mod Sum
pub mod Tells
pub mod Walk
