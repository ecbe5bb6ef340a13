-- The lemmas that proofs of other crates cite.
pub use Rattle.chc_core.proofs.BookLemmas.{made-at}
pub use Rattle.chc_core.proofs.ClosingLemmas.{closes-fact, closes-lemma, closes-raise}
pub use Rattle.chc_core.proofs.LawLemmas.{steps-derivation}
pub use Rattle.chc_core.proofs.TokenLemmas.{carries}
