use Rattle.std.proofs.Common.{◌++◌, drop}
use Rattle.clause_queries.specs.Uses.{uses_from}
use Rattle.clause_queries.specs.machinery.Needs.{AreEnough}
use Rattle.clause_queries.proofs.using.frame_used.Given as goal

-- with the rest they are enough
abbrev pub invariant-loop-number : goal.invariant-loop-number
invariant-loop-number l = AreEnough (uses_from l.k l.frames.lemmas 0 l.atoms) (l.needed.used.items ++ uses_from l.k l.frames.lemmas l.number (drop l.number l.atoms))
