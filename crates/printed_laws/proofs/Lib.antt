pub mod LineLemmas
pub mod PrintedLemmas
pub mod ReadingLemmas
pub mod RefusalLemmas
pub mod ValidLemmas
pub mod VerdictLemmas
