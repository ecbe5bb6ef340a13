pub mod LearnLemmas
pub mod MovedLemmas
pub mod TriedLemmas
