pub mod AlikeLemmas
mod ClassLemmas
pub mod ClauseLemmas
mod JudgeLemmas
pub mod Public
mod RoomLemmas
pub mod UseLemmas
mod WholeLemmas
