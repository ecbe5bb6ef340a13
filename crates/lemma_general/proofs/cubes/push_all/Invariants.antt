use Rattle.std.proofs.Common.{◌≡◌, ◌++◌, take}
use Rattle.lemma_general.proofs.cubes.push_all.Given as goal

-- those so far
abbrev pub invariant-loop-lit : goal.invariant-loop-lit
invariant-loop-lit l = l.made.items ≡ l.fn.made.items ++ take l.lit-index l.lits
