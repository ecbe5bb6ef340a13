-- The lemmas that proofs of other crates cite.
pub use Rattle.lia_node.proofs.ColumnLemmas.{length-system}
pub use Rattle.lia_node.proofs.ExtendLemmas.{point-solution}
pub use Rattle.lia_node.proofs.NodeLemmas.{solution-met}
