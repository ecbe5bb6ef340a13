use Rattle.std.proofs.Common.{◌≡◌, length}
use Rattle.refutation_trees.specs.declared.tree.Refutation.TheVariants.{Leaf}
use Rattle.lia_close.specs.machinery.Closing.{under}
use Rattle.lia_close.proofs.leaf.Leaf.tree.Given as goal

-- the roundings that are left stand above the tree
abbrev pub invariant-under : goal.invariant-under
invariant-under l = under l.roundings.items l.tree ≡ under l.fn.self.roundings.items (Leaf l.fn.self.multipliers.items)

abbrev pub decreases-under : goal.decreases-under
decreases-under l = length l.roundings.items
