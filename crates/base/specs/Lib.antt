pub mod Bytes
pub mod Limits
pub mod Numeral
pub mod Widths
