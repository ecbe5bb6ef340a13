-- What proofs of other crates may cite of this one's.
pub use Rattle.check_derivation.proofs.LawLemmas.{one_step, right_not_wrong}
pub use Rattle.check_derivation.proofs.RightLemmas.{clause_once}
