pub mod Examples
pub mod Formula
pub mod Linear
pub mod Meeting
pub mod Place
pub mod Short
pub mod Text
pub mod Width
