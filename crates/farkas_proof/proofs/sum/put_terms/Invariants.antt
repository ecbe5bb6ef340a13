use Rattle.std.proofs.Common.{◌≡◌, ◌++◌, drop, true}
use Rattle.lin_atoms.specs.Algebra.{scaled_terms}
use Rattle.farkas_proof.specs.machinery.Sum.{are_counted, seen}
use Rattle.farkas_proof.proofs.sum.put_terms.Given as goal

-- what is there, and what is to come
abbrev pub invariant-loop-variable : goal.invariant-loop-variable
invariant-loop-variable l = record {
  value : seen l.terms.items ++ scaled_terms l.k (drop l.variable-index l.added) ≡ scaled_terms l.k l.added;
  counted : are_counted 1 l.terms.items ≡ true;
}
