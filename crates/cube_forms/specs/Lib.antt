pub mod Cubes
pub mod machinery
