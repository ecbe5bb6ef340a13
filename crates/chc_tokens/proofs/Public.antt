-- The lemmas that proofs of other crates cite.
pub use Rattle.chc_tokens.proofs.QueryLemmas.{query-parts, shows, truth-query}
