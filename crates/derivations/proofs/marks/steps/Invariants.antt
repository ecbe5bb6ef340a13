use Rattle.std.proofs.Common.{◌+◌, ◌-◌, ◌≤◌}
use Rattle.derivations.specs.machinery.Marks.{AreCollected}
use Rattle.derivations.proofs.marks.steps.Given as goal

abbrev pub invariant-loop-at : goal.invariant-loop-at
invariant-loop-at l = (l.at ≤ l.id + 1) × AreCollected l.marks.items l.at l.steps.items

abbrev pub decreases-loop-at : goal.decreases-loop-at
decreases-loop-at l = l.id + 1 - l.at
