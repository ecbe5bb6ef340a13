pub mod DeclaredLemmas
pub mod FormedLemmas
pub mod FormulaLemmas
pub mod NameLemmas
pub mod OneModelLemmas
pub mod PartnerLemmas
pub mod ReadBackLemmas
pub mod SymbolLemmas
