use Rattle.std.proofs.Common.{◌≡◌, map, take}
use Rattle.term_tree.specs.declared.node.TermId.{TermId}
use Rattle.term_tree.specs.machinery.Known.{known_worth}
use Rattle.term_tree.proofs.evaluation.all_looked_up.Given as goal

abbrev pub invariant-loop-id : goal.invariant-loop-id
invariant-loop-id l = l.values.items ≡ map (λ (id : TermId). known_worth l.fn.known id.0) (take l.id-index l.ids)
