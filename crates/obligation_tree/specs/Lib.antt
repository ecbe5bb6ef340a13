pub mod Nodes
pub mod Closing
pub mod Claims
pub mod Hanging
pub mod Shape
pub mod machinery
