-- The lemmas that proofs of other crates cite.
pub use Rattle.interpretations.proofs.LawLemmas.{are-formulas, from-frame, in-frame}
pub use Rattle.interpretations.proofs.PrintLemmas.{defines-each, made-of-lemmas}
