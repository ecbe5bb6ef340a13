use Rattle.std.proofs.Common.{◌≡◌, drop}
use Rattle.lia_close.specs.machinery.Closing.{all_leaf, taken_into}
use Rattle.lia_close.proofs.conflict.leaf_of.Given as goal

-- the rest goes on from the leaf so far
abbrev pub invariant-loop-one : goal.invariant-loop-one
invariant-loop-one l = taken_into l.lits l.reasons l.known (drop l.one-index l.taken) (l.leaf.roundings.items, l.leaf.multipliers.items) ≡ all_leaf l.lits l.reasons l.known l.taken
