-- The lemmas that proofs of other crates cite.
pub use Rattle.term_check.proofs.KeyLemmas.{any_named, name_added}
pub use Rattle.term_check.proofs.LegalityLemmas.{spelled_legal}
pub use Rattle.term_check.proofs.LightLemmas.{reading_weighs, tree_light, trees_light}
pub use Rattle.term_check.proofs.NumberLemmas.{same_bytes}
pub use Rattle.term_check.proofs.OutcomeLemmas.{below_is, bind_ok, unless_ok}
pub use Rattle.term_check.proofs.SpellingLemmas.{head_of-List, spelled-List, weigh_all, weight-List}
pub use Rattle.term_check.proofs.TermLemmas.{term_stays}
