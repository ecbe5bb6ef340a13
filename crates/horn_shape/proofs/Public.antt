-- What proofs of other crates may cite.
pub use Rattle.horn_shape.proofs.BreakingLemmas.{broken_is_false, defined_truth, false_is_broken, true_is_unbroken, unbroken_is_true}
pub use Rattle.horn_shape.proofs.ClauseLemmas.{legal_at, legal_has_assertion}
pub use Rattle.horn_shape.proofs.KnownLemmas.{plain_is}
pub use Rattle.horn_shape.proofs.ScopeLemmas.{AgreeBelow, IsLocal, IsScope, plain_local, plain_sorted}
pub use Rattle.horn_shape.proofs.SettledLemmas.{GivesTruth}
pub use Rattle.horn_shape.proofs.ShapeLemmas.{body_at, clause_at}
pub use Rattle.horn_shape.proofs.SolutionLemmas.{solution_unbroken, unbroken_solution}
