-- The lemmas that proofs of other crates cite.
pub use Rattle.lia_stack.proofs.Public.{short-And, short-Or}
