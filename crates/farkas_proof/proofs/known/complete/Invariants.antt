use Rattle.std.proofs.Common.{◌≡◌, ◌-◌, length, take}
use Rattle.farkas_proof.specs.machinery.Ends.{ends_from}
use Rattle.farkas_proof.proofs.known.complete.Given as goal

-- the numbers are those of the first literals
abbrev pub invariant-loop-ends : goal.invariant-loop-ends
invariant-loop-ends l = l.ends.items ≡ ends_from 0 (take (length l.ends.items) l.lits)

abbrev pub decreases-loop-ends : goal.decreases-loop-ends
decreases-loop-ends l = length l.lits - length l.ends.items
