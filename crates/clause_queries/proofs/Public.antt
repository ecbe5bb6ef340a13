-- The lemmas that proofs of other crates cite.
pub use Rattle.clause_queries.proofs.BoolLemmas.{either_left, either_right, implied, implies, number_is, own_number, same_some}
pub use Rattle.clause_queries.proofs.FormLemmas.{below-lemma, collected-pass, cube-at, named-pass, terms_pass}
pub use Rattle.clause_queries.proofs.NeedLemmas.{of-uses}
pub use Rattle.clause_queries.proofs.UseLemmas.{thin-cube, uses-all, uses-back, uses_on-all, uses_on-back}
pub use Rattle.clause_queries.proofs.AskLemmas.{FitsOn, IsUsable, fits-on, has-goal, head-goal, usable}
