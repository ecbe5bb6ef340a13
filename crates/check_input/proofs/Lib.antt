pub mod AppendLemmas
pub mod PartLemmas
pub mod PieceLemmas
pub mod TextLemmas
