use Rattle.std.proofs.Common.{◌≡◌, length, true}
use Rattle.std.specs.List.{list_all}
use Rattle.lia_divisors.specs.machinery.Plain.{is_plain}
use Rattle.lia_divisors.proofs.written.tree_of.Given as goal

-- the trees so far
abbrev pub invariant-back : goal.invariant-back
invariant-back l = list_all is_plain l.trees.items ≡ true

abbrev pub decreases-back : goal.decreases-back
decreases-back l = length l.moves.items
