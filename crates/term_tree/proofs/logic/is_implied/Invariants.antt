use Rattle.std.proofs.Common.{◌≡◌, drop, map}
use Rattle.term_tree.specs.Operators.{implied, truth}
use Rattle.term_tree.proofs.logic.is_implied.Given as goal

abbrev pub invariant-loop-i : goal.invariant-loop-i
invariant-loop-i l = implied (map truth (drop l.i l.values)) ≡ implied (map truth l.values)
