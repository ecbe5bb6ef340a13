pub mod JobLemmas
mod LiftLemmas
mod OlderLemmas
pub mod StepLemmas
pub mod SystemLemmas
pub mod ThinLemmas
