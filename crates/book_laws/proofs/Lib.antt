mod GrowthLemmas
mod StaleLemmas
