pub mod BlockLemmas
pub mod CubeLemmas
pub mod Public
pub mod RoomLemmas
pub mod TruthLemmas
