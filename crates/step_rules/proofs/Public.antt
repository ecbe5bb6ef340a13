-- The lemmas that proofs of other crates cite.
pub use Rattle.step_rules.proofs.ViewLemmas.{fact-height, fact_of-at, facts-push, framed_of-at, heights_are, lemmas-lifted, lemmas-push, length-facts, obligation_of-at, obligations-marked, obligations-push}
pub use Rattle.step_rules.proofs.WalkLemmas.{goes-on, is-found, is-over, is-told, tells-on}
