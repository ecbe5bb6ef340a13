-- What proofs of other crates may cite of this one's.
pub use Rattle.linear_terms.proofs.AuxiliaryLemmas.{linear_is, formula_is, place_value, meets_all, holds_all, sorted_there}
pub use Rattle.linear_terms.proofs.BitLemmas.{bit_value}
pub use Rattle.linear_terms.proofs.ConstantLemmas.{constant_is}
pub use Rattle.linear_terms.proofs.JunctionLemmas.{truth-Lit, truth-True, truth-False, truth-all, truth-any}
pub use Rattle.linear_terms.proofs.PartLemmas.{by_parts, linear_at, bit_at, formula_at}
pub use Rattle.linear_terms.proofs.SortLemmas.{value_sort}
