use Rattle.std.proofs.Common.{◌≡◌, ◌≤◌, true, drop, length}
use Rattle.refutation_trees.specs.Combination.{are_multipliers, combined}
use Rattle.farkas_proof.specs.machinery.Sum.{IsSum, standing}
use Rattle.farkas_proof.proofs.sum.combine.Given as goal

-- the multiples from the number on were added up
abbrev pub invariant-loop-left : goal.invariant-loop-left
invariant-loop-left l = record {
  legal : are_multipliers l.lits (drop l.left l.multipliers) ≡ true;
  value : standing l.sum.terms.items l.sum.negated ≡ combined l.lits (drop l.left l.multipliers);
  fine : IsSum l.sum.terms.items l.sum.negated l.sum.products;
  place : l.left ≤ length l.multipliers;
}

abbrev pub decreases-loop-left : goal.decreases-loop-left
decreases-loop-left l = l.left
