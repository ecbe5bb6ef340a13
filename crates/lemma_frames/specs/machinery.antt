-- What the code keeps for itself: no rule cites it.
pub mod Index
pub mod Listing
pub mod Rows
