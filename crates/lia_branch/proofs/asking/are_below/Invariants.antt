use Rattle.std.proofs.Common.{◌≡◌, take, true}
use Rattle.std.specs.List.{list_all}
use Rattle.lin_atoms.specs.Truth.{lit_is_below}
use Rattle.lia_branch.proofs.asking.are_below.Given as goal

-- the literals so far
abbrev pub invariant-loop-lit : goal.invariant-loop-lit
invariant-loop-lit l = list_all (lit_is_below l.vars) (take l.lit-index l.lits) ≡ true
