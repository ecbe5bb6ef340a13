-- What proofs of other crates may cite of this one's.
pub use Rattle.derivations.proofs.LawLemmas.{height_above, once, steps_closed, steps_last}
