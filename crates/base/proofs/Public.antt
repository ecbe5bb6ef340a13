-- The lemmas that proofs of other crates cite.
pub use Rattle.base.proofs.IntLemmas.{*ℤ-+ℤ, *ℤ_assoc, +ℤ-*ℤ, neg_ℤ-*ℤ}
