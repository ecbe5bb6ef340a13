use Rattle.std.proofs.Common.{◌≡◌, ◌++◌, drop}
use Rattle.lin_atoms.specs.Algebra.{scaled_terms}
use Rattle.farkas_proof.proofs.narrow.push_multiples.Given as goal

-- what is there, and what is to come
abbrev pub invariant-loop-variable : goal.invariant-loop-variable
invariant-loop-variable l = l.terms.items ++ scaled_terms l.k (drop l.variable-index l.added) ≡ l.fn.terms.items ++ scaled_terms l.k l.added
