use Rattle.std.proofs.Common.{◌≡◌, ◌-◌, drop}
use Rattle.term_tree.specs.Operators.{chained}
use Rattle.term_tree.specs.Relations.{relation_of}
use Rattle.term_tree.proofs.logic.is_chained.Given as goal

abbrev pub invariant-loop-i : goal.invariant-loop-i
invariant-loop-i l = chained (relation_of l.op) (drop (l.i - 1) l.values) ≡ chained (relation_of l.op) l.values
