use Rattle.std.proofs.Common.{◌≡◌, drop, map}
use Rattle.std.specs.Prelude.{not, fold}
use Rattle.term_tree.specs.Operators.{exclusive, same_truth, truth}
use Rattle.term_tree.proofs.logic.is_exclusive.Given as goal

abbrev pub invariant-loop-value : goal.invariant-loop-value
invariant-loop-value l = fold (λ a b. not (same_truth a b)) l.so_far (map truth (drop l.value-index l.values)) ≡ exclusive (map truth l.values)
