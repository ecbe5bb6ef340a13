pub mod Public
pub mod RunLemmas
