use Rattle.std.proofs.Common.{◌≡◌, ◌≤◌, ◌^◌, drop}
use Rattle.std.specs.Prelude.{max}
use Rattle.refutation_trees.specs.Combination.{terms_end}
use Rattle.refutation_trees.proofs.ends.terms_end.Given as goal

-- with the rest, it is that of all
abbrev pub invariant-loop-variable : goal.invariant-loop-variable
invariant-loop-variable l = record {
  is : max l.end (terms_end (drop l.variable-index l.terms)) ≡ terms_end l.terms;
  small : l.end ≤ 2 ^ 32;
}
