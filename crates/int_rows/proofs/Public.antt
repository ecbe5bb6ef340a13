-- The lemmas that proofs of other crates cite.
pub use Rattle.int_rows.proofs.BasisLemmas.{pivoted-wide, table-basis}
pub use Rattle.int_rows.proofs.ContentLemmas.{Divides, content-is, content-most}
pub use Rattle.int_rows.proofs.EquationLemmas.{coefficient-none, coefficient-small, equation-at, length-equations, one-primitive, range-more}
pub use Rattle.int_rows.proofs.FollowLemmas.{follows-own}
pub use Rattle.int_rows.proofs.PivotLemmas.{lt-true, positive-factor, zero-factor}
pub use Rattle.int_rows.proofs.PivotedLemmas.{length-pivoted, pivoted-other, pivoted-table, refilled, table-pivots}
pub use Rattle.int_rows.proofs.SpaceLemmas.{pivoted-same, same-basis, same-follows, same-reflexive, same-solutions, same-symmetric, same-transitive, same-wide}
