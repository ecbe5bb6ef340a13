pub mod PlacedLemmas
pub mod SortingLemmas
