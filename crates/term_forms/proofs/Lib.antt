pub mod FoundLemmas
pub mod LegalLemmas
pub mod ReadingLemmas
