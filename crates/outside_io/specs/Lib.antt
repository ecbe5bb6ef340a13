pub mod Bytes
pub mod Counts
pub mod Turns
pub mod Stops
