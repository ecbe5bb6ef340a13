pub mod Defined
pub mod Point
