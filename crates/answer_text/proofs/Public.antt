-- The lemmas that proofs of other crates cite.
pub use Rattle.answer_text.proofs.LawLemmas.{alone_law, same_reply}
pub use Rattle.answer_text.proofs.ModelLemmas.{read_as}
pub use Rattle.answer_text.proofs.StepLemmas.{read_back}
