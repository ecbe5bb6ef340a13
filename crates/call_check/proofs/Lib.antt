pub mod ExactLemmas
pub mod JudgedLemmas
pub mod PlanLemmas
