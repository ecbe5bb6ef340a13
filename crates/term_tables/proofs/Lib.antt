pub mod ConstantLemmas
pub mod LoopLemmas
pub mod TableLemmas
