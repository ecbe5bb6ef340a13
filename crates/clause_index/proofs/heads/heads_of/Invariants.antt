use Rattle.clause_index.specs.machinery.Heads.{Filled}
use Rattle.clause_index.proofs.heads.heads_of.Given as goal

-- the rest is to come
abbrev pub invariant-loop-number : goal.invariant-loop-number
invariant-loop-number l = Filled l.system l.number l.heads
