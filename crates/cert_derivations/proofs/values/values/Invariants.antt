use Rattle.std.proofs.Common.{◌≡◌, ◌-◌, ◌++◌, length, drop}
use Rattle.term_tree.specs.Truth.{as_values}
use Rattle.cert_derivations.proofs.values.values.Given as goal

abbrev pub invariant-loop-at : goal.invariant-loop-at
invariant-loop-at l = l.values.items ++ as_values (drop l.at l.sorts) (drop l.at l.point) ≡ as_values l.sorts l.point

abbrev pub decreases-loop-at : goal.decreases-loop-at
decreases-loop-at l = length l.sorts - l.at
