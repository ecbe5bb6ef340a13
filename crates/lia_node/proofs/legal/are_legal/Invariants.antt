use Rattle.std.proofs.Common.{◌≡◌, take, true}
use Rattle.std.specs.List.{list_all}
use Rattle.lia_node.specs.Known.{is_legal}
use Rattle.lia_node.proofs.legal.are_legal.Given as goal

-- the literals so far
abbrev pub invariant-loop-lit : goal.invariant-loop-lit
invariant-loop-lit l = list_all is_legal (take l.lit-index l.lits) ≡ true
