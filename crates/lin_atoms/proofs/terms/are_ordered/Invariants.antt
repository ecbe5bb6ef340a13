use Rattle.std.proofs.Common.{◌≡◌, ◌≤◌, ◌^◌, drop}
use Rattle.lin_atoms.specs.Linear.{are_ordered}
use Rattle.lin_atoms.proofs.terms.are_ordered.Given as goal

-- the terms to come decide
abbrev pub invariant-loop-variable : goal.invariant-loop-variable
invariant-loop-variable l = record {
  told : are_ordered l.from (drop l.variable-index l.terms) ≡ are_ordered 0 l.terms;
  small : l.from ≤ 2 ^ 32;
}
