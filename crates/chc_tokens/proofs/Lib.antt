pub mod OpenLemmas
pub mod Public
pub mod QueryLemmas
pub mod UsedLemmas
