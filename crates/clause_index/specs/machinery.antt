pub mod Heads
pub mod Indexed
pub mod Places
