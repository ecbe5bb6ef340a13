-- What the code keeps for itself: no rule cites it.
pub mod Chain
pub mod Plain
pub mod There
