pub mod AgreeLemmas
pub mod EndLemmas
pub mod FoundLemmas
pub mod LawLemmas
pub mod PartLemmas
pub mod Public
pub mod RightLemmas
pub mod TestLemmas
