use Rattle.std.proofs.Common.{◌≡◌, take, true}
use Rattle.std.specs.List.{list_all}
use Rattle.lia_node.specs.Known.{has_short_constant}
use Rattle.lia_node.proofs.asking.have_short_constants.Given as goal

-- the literals so far
abbrev pub invariant-loop-lit : goal.invariant-loop-lit
invariant-loop-lit l = list_all has_short_constant (take l.lit-index l.lits) ≡ true
