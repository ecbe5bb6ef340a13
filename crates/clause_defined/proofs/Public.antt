-- What proofs of other crates may cite of this one's.
pub use Rattle.clause_defined.proofs.AlikeLemmas.{all_one, there_is_one}
pub use Rattle.clause_defined.proofs.ClauseLemmas.{all_below, all_defined}
pub use Rattle.clause_defined.proofs.UseLemmas.{at_least, can_next, can_rest}
