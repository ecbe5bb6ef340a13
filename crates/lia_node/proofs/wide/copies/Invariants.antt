use Rattle.std.proofs.Common.{◌≡◌, take}
use Rattle.lia_node.proofs.wide.copies.Given as goal

-- the literals so far
abbrev pub invariant-loop-lit : goal.invariant-loop-lit
invariant-loop-lit l = l.copied ≡ take l.lit-index l.lits
