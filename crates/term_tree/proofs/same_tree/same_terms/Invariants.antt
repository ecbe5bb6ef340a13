use Rattle.std.specs.BTreeSet.{keys}
use Rattle.term_tree.proofs.CompareLemmas.{IsComparison, height}
use Rattle.term_tree.proofs.same_tree.same_terms.Given as goal

abbrev pub invariant-loop-pair : goal.invariant-loop-pair
invariant-loop-pair l = IsComparison l.a.nodes l.b.nodes l.fn.i.0 l.fn.j.0 (keys l.waiting)

abbrev pub decreases-loop-pair : goal.decreases-loop-pair
decreases-loop-pair l = height l.fn.j.0 (keys l.waiting)
