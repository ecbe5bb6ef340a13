pub mod Algebra
pub mod Denial
pub mod Dot
pub mod Linear
pub mod Multiples
pub mod Ratio
pub mod Truth
pub mod machinery
