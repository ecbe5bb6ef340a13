use Rattle.std.proofs.Common.{◌≡◌, ◌<◌, ℕ, true}
use Rattle.std.specs.Prelude.{slice_get, Some}
use Rattle.term_tree.specs.declared.node.Node.{Node}
use Rattle.term_tree.specs.Solution.{has_short_divisor}
use Rattle.test_clauses.proofs.definitions.has_no_divisor.Given as goal

-- the same of those so far
abbrev pub invariant-loop-i : goal.invariant-loop-i
invariant-loop-i l = (id : ℕ) (node : Node) → id < l.i → slice_get l.terms.nodes id ≡ Some node → has_short_divisor node ≡ true
