pub mod Between
pub mod Exists
pub mod Machine
pub mod Numbers
pub mod Progress
pub mod Public
pub mod Reaches
pub mod Steps
