use Rattle.std.proofs.Common.{◌≡◌, [], reverse, length}
use Rattle.lia_close.specs.Written.{assembled}
use Rattle.lia_close.proofs.written.tree_of.Given as goal

-- the trees so far are those of the steps behind
abbrev pub invariant-back : goal.invariant-back
invariant-back l = assembled l.steps.items (reverse l.trees.items) ≡ assembled l.fn.steps.items []

abbrev pub decreases-back : goal.decreases-back
decreases-back l = length l.steps.items
