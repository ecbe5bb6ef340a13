use Rattle.std.specs.Ordering.{nat_cmp}
use Rattle.std.specs.BTreeSet.{contains}
use Rattle.term_tree.specs.machinery.Walk.{IsWalk}
use Rattle.term_tree.proofs.subterms.subterms.Given as goal

abbrev pub invariant-loop-id : goal.invariant-loop-id
invariant-loop-id l = IsWalk l.terms.nodes l.fn.top.0 l.last (contains nat_cmp l.waiting) l.ids.items

abbrev pub decreases-loop-id : goal.decreases-loop-id
decreases-loop-id l = l.last
