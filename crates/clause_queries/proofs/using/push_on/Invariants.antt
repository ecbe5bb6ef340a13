use Rattle.std.proofs.Common.{◌≡◌, ◌++◌, drop}
use Rattle.clause_queries.specs.Uses.{uses_on}
use Rattle.clause_queries.proofs.using.push_on.Given as goal

-- the rest is to come
abbrev pub invariant-loop-id : goal.invariant-loop-id
invariant-loop-id l = l.used.items ++ uses_on l.k l.number l.pred (drop l.id l.frames.lemmas) ≡ l.fn.used.items ++ uses_on l.k l.number l.pred l.frames.lemmas
