-- What the code keeps for itself: no rule cites it.
pub mod Bodies
pub mod Hits
pub mod Jobs
pub mod Lifts
pub mod Opens
