use Rattle.std.proofs.Common.{◌≡◌, drop}
use Rattle.std.specs.Prelude.{not}
use Rattle.term_tree.specs.Operators.{pairwise, same_value}
use Rattle.term_tree.proofs.logic.is_distinct.Given as goal

abbrev pub invariant-loop-i : goal.invariant-loop-i
invariant-loop-i l = pairwise (λ x y. not (same_value x y)) (drop l.i l.values) ≡ pairwise (λ x y. not (same_value x y)) l.values
