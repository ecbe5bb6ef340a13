-- What proofs of other crates may cite of this one's.
pub use Rattle.clause_form.proofs.KeptLemmas.{keeps, keeps_atom}
pub use Rattle.clause_form.proofs.SystemLemmas.{short-And, short-Or}
