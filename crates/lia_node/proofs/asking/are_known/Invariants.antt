use Rattle.std.proofs.Common.{◌≡◌, ◌≤◌, ◌+◌, drop}
use Rattle.lia_node.specs.Known.{are_known}
use Rattle.lia_node.proofs.asking.are_known.Given as goal

-- what the rest decides
abbrev pub invariant-loop-lit : goal.invariant-loop-lit
invariant-loop-lit l = record {
  rest : are_known l.quotient (drop l.lit-index l.lits) ≡ are_known l.end l.lits;
  small : l.quotient ≤ l.end + l.lit-index;
}
