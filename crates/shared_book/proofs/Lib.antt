pub mod RunLemmas
pub mod ChoiceLemmas
pub mod JobLemmas
pub mod ListLemmas
pub mod LockLemmas
