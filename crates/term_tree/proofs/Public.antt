-- The lemmas that proofs of other crates cite.
pub use Rattle.term_tree.proofs.EachLemmas.{numbered_at, same_at, scoped_at, told_at_each}
pub use Rattle.term_tree.proofs.FoldLemmas.{constant_at, head_at, sort_at, told_at, told_past}
pub use Rattle.term_tree.proofs.HeadLemmas.{headed}
pub use Rattle.term_tree.proofs.MeaningLemmas.{below_from, both_true, has_value_at}
pub use Rattle.term_tree.proofs.PlainLemmas.{arena_below, eqb_self, part_below, there_is}
pub use Rattle.term_tree.proofs.SameLemmas.{own_op}
pub use Rattle.term_tree.proofs.ValueLemmas.{value_at}
