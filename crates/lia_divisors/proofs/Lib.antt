pub mod ThereLemmas
pub mod MovedLemmas
pub mod PlainLemmas
