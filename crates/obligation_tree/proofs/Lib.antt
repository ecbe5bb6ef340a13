pub mod ClosingLemmas
pub mod LawLemmas
pub mod LeafLemmas
pub mod NumberLemmas
pub mod Public
pub mod ShapeLemmas
