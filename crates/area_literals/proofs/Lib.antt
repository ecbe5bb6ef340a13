pub mod WeightLemmas
pub mod CoverLemmas
pub mod GrowLemmas
pub mod LoopLemmas
pub mod FrameLemmas
pub mod AreaLemmas
