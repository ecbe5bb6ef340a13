pub mod Placed
pub mod Said
pub mod Written
pub mod machinery
