pub mod IndexLemmas
pub mod ListingLemmas
pub mod PrefixLemmas
pub mod Public
pub mod RowLemmas
