-- The lemmas that proofs of other crates cite.
pub use Rattle.lia_close.proofs.LeafLemmas.{get-more}
pub use Rattle.lia_close.proofs.WrittenLemmas.{assembled-++, assembled-push, one-tree, reverse-push, root-tree, sound-closed, sound-named, sound-parts, sound-sides}
