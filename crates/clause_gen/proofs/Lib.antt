pub mod LegalLemmas
pub mod OrderLemmas
