pub mod Numbers
pub mod RangeLemmas
pub mod CallLemmas
pub mod ReadLemmas
pub mod CommandLemmas
