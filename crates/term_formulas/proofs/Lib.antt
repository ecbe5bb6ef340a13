pub mod ApartLemmas
pub mod ArgumentLemmas
pub mod BitLemmas
pub mod NarrowLemmas
pub mod PairLemmas
pub mod RoomLemmas
pub mod TruthLemmas
