pub mod Frames
pub mod machinery
