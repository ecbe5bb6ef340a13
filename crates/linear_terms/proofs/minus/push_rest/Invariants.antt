use Rattle.std.proofs.Common.{◌≡◌, ◌++◌, ◌≤◌, drop, length}
use Rattle.linear_terms.proofs.minus.push_rest.Given as goal

-- what is made, and what is to come
abbrev pub invariant-loop-i : goal.invariant-loop-i
invariant-loop-i l = record {
  told : l.made.items ++ drop l.i l.terms ≡ l.fn.made.items ++ drop l.from l.terms;
  within : l.i ≤ length l.terms;
}
