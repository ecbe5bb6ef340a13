pub mod KeptLemmas
pub mod Public
pub mod SystemLemmas
