-- The lemmas that proofs of other crates cite.
pub use Rattle.obligation_tree.proofs.ShapeLemmas.{live-within, new-at, old-at, root_at-live, root_at-others, root_at-root}
pub use Rattle.obligation_tree.proofs.ClosingLemmas.{after-is, closing-live, closing-obligation, closing-tree, length-closing}
pub use Rattle.obligation_tree.proofs.LawLemmas.{closed-now, closed-stays, live-stays, live-untold, raise-live, raise-root, what-falls, why-closed}
