-- What proofs of other crates may cite of this one's.
pub use Rattle.lemma_frames.proofs.PrefixLemmas.{frame_falls, upper_one, upper_prefix}
