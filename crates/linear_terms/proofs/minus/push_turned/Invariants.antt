use Rattle.std.proofs.Common.{◌≡◌, ◌++◌, ◌≤◌, drop, length}
use Rattle.lin_atoms.specs.Algebra.{negated_terms}
use Rattle.linear_terms.proofs.minus.push_turned.Given as goal

-- what is made, and what is to come
abbrev pub invariant-loop-i : goal.invariant-loop-i
invariant-loop-i l = record {
  told : l.made.items ++ drop l.i (negated_terms l.terms) ≡ l.fn.made.items ++ drop l.from (negated_terms l.terms);
  within : l.i ≤ length l.terms;
}
