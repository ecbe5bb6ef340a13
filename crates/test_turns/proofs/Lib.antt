pub mod BookLemmas
pub mod LedLemmas
