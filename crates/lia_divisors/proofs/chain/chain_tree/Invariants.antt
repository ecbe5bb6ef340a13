use Rattle.std.proofs.Common.{◌≡◌, length}
use Rattle.refutation_trees.specs.declared.tree.Refutation.TheVariants.{Leaf}
use Rattle.lia_divisors.specs.machinery.Chain.{chained}
use Rattle.lia_divisors.proofs.chain.chain_tree.Given as goal

-- the roundings that are left stand above the tree
abbrev pub invariant-under : goal.invariant-under
invariant-under l = chained l.roundings.items l.tree ≡ chained l.fn.chain.roundings.items (Leaf l.fn.chain.multipliers.items)

abbrev pub decreases-under : goal.decreases-under
decreases-under l = length l.roundings.items
