pub mod FurtherLemmas
pub mod JobLemmas
pub mod StepLemmas
