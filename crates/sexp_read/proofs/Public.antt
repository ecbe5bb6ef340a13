-- The lemmas that proofs of other crates cite.
pub use Rattle.sexp_read.proofs.Exists.{has_reading, has_rest}
pub use Rattle.sexp_read.proofs.Machine.{one_reading}
pub use Rattle.sexp_read.proofs.Progress.{IsAhead, next_ahead, plain_spans, word_spans}
pub use Rattle.sexp_read.proofs.Reaches.{joined, one_more, tree_ahead}
