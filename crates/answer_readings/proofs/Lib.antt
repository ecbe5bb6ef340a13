pub mod DefinitionLemmas
pub mod TextLemmas
pub mod UseLemmas
