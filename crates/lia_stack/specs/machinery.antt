-- What the code keeps for itself: no rule cites it.
pub mod Fewest
pub mod Opened
pub mod Searched
