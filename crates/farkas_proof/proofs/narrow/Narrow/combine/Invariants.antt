use Rattle.std.proofs.Common.{◌≡◌, ◌≤◌, true, drop, length}
use Rattle.lin_atoms.specs.Linear.{are_ordered}
use Rattle.refutation_trees.specs.Combination.{are_multipliers, combined}
use Rattle.farkas_proof.specs.machinery.Narrow.{sum_of}
use Rattle.farkas_proof.proofs.narrow.Narrow.combine.Given as goal

-- the multiples from the number on were added up
abbrev pub invariant-loop-left : goal.invariant-loop-left
invariant-loop-left l = record {
  legal : are_multipliers l.lits (drop l.left l.multipliers) ≡ true;
  value : sum_of l.self ≡ combined l.lits (drop l.left l.multipliers);
  ordered : are_ordered 0 l.self.terms.items ≡ true;
  place : l.left ≤ length l.multipliers;
}

abbrev pub decreases-loop-left : goal.decreases-loop-left
decreases-loop-left l = l.left
