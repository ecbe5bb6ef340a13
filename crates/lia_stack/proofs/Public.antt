-- The lemmas that proofs of other crates cite.
pub use Rattle.lia_stack.proofs.EndLemmas.{form-ends}
pub use Rattle.lia_stack.proofs.FlatLemmas.{short-And, short-Or}
pub use Rattle.lia_stack.proofs.SearchLemmas.{decides-model}
pub use Rattle.lia_stack.proofs.StateLemmas.{closed-bounds, closes-after, closes-named, moved, named-keeps, same-then, splits-after, splits-named, top-known, top-short}
pub use Rattle.lia_stack.proofs.TurnLemmas.{counted, top}
