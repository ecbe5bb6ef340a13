use Rattle.std.proofs.Common.{◌++◌, length}
use Rattle.clause_queries.specs.machinery.Needs.{AreEnough}
use Rattle.clause_queries.proofs.needing.Needed.take_all.Given as goal

-- with those that are left they are enough
abbrev pub invariant-next : goal.invariant-next
invariant-next l = AreEnough (l.fn.self.used.items ++ l.fn.uses.used.items) (l.self.used.items ++ l.left.items)

abbrev pub decreases-next : goal.decreases-next
decreases-next l = length l.left.items
