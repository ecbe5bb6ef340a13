-- The lemmas that proofs of other crates cite.
pub use Rattle.lin_atoms.proofs.AgreeLemmas.{form-agree, lit-agree}
pub use Rattle.lin_atoms.proofs.DenialLemmas.{denial_is}
pub use Rattle.lin_atoms.proofs.DivisionLemmas.{multiple_where, positive, quotient-greatest, quotient-rest, quotient_is, rest-below, rest-natural, rest_is}
pub use Rattle.lin_atoms.proofs.LinearLemmas.{both_true, length_at}
pub use Rattle.lin_atoms.proofs.MergeLemmas.{ordered-at, ordered-drop, push-term, scaled-drop, scaled-end, scaled-ordered, within-collected}
pub use Rattle.lin_atoms.proofs.RatioLemmas.{divisor-some, exact_quotient, gcd_of_rest, wide_where}
pub use Rattle.lin_atoms.proofs.TermLemmas.{both-ordered, collected-ordered, collected-same, ordered, ordered-cons, ordered-weaker, second-first, sum_at-++, term_on-whole, with_term-behind, with_term-front, with_term-same}
pub use Rattle.lin_atoms.proofs.TruthLemmas.{is_below-And, is_below-Or, truth-And, truth-Or}
pub use Rattle.lin_atoms.proofs.ValueLemmas.{value_at-added, value_at-agree, value_at-named, value_at-negated, value_at-scaled}
