pub mod Known
pub mod Nodes
pub mod Tells
pub mod Vertices
pub mod Whole
pub mod machinery
