use Rattle.std.proofs.Common.{◌≡◌, ◌++◌, take}
use Rattle.search_learn.proofs.moving.push_all.Given as goal

abbrev pub invariant-loop-lit : goal.invariant-loop-lit
invariant-loop-lit l = l.made.items ≡ l.fn.made.items ++ take l.lit-index l.lits
