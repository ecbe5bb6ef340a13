-- What the code keeps for itself: no rule cites it.
pub mod Claims
pub mod Fronts
pub mod Literals
pub mod Walks
pub mod Places
pub mod Told
