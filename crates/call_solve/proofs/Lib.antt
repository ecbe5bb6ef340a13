pub mod AnswerLemmas
pub mod PlanLemmas
