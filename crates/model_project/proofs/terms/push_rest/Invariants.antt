use Rattle.std.proofs.Common.{◌≡◌, ◌++◌, ◌≤◌, drop, length}
use Rattle.lin_atoms.specs.Algebra.{scaled_terms}
use Rattle.model_project.proofs.terms.push_rest.Given as goal

-- what is made, and what is to come
abbrev pub invariant-loop-i : goal.invariant-loop-i
invariant-loop-i l = record {
  told : l.made.items ++ drop l.i (scaled_terms l.k l.terms) ≡ l.fn.made.items ++ drop l.from (scaled_terms l.k l.terms);
  within : l.i ≤ length l.terms;
}
