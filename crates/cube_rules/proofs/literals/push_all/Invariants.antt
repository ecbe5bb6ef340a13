use Rattle.std.proofs.Common.{◌≡◌, ◌++◌, take}
use Rattle.cube_rules.proofs.literals.push_all.Given as goal

-- those so far
abbrev pub invariant-loop-lit : goal.invariant-loop-lit
invariant-loop-lit l = l.lits.items ≡ l.fn.lits.items ++ take l.lit-index l.more
